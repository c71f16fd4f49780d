-- How many entries a name names with each number of qualifiers.
use Rattle.std.proofs.Common.{◌≡◌, ℕ, zero, suc, ◌+◌, ◌<◌, ◌≤◌, ◌⊎◌, inl, inr, Bool, true, false, ◌&&◌, List, [], ◌∷◌, ◌++◌, length, map, take, get_or, refl, sym, ap, subst, ◌∙◌, arith, length-append, add-one}
use Rattle.std.specs.Prelude.{bytes_eq, cond, if◌then◌else◌}
use Rattle.std.specs.Bool.{Decides}
use Rattle.std.proofs.lemmas.List.Elements.{filter-append}
use Rattle.cob_copybook_names.specs.declared.bearer.Bearer.{Bearer as Listed}
use Rattle.cob_copybook_names.specs.Naming.{Bearer, has_name, is_named, named, qualifies}
use Rattle.cob_report_partners.specs.Entries.{DraftEntry, listed_bearer}
use Rattle.cob_report_partners.specs.Naming.{IsNeeded, IsSpread, NamesOne, Spreads, reach}
use Rattle.cob_report_partners.specs.declared.entries.DraftEntry.{DraftEntry as ListedEntry}
use Rattle.cob_report_partners.specs.declared.naming.NameSpread.{NameSpread}

reach_step : (t : Bool) (k n m : ℕ) (x y : Bool) → Decides x (k ≤ n) → Decides y (suc k ≤ m) → Decides (if t then x else y) (suc k ≤ (if t then n + 1 else m))
reach_step true k n m x y (is, only) other = (λ h. omega (arith, is h), λ h. only (omega (arith, h)))
reach_step false k n m x y here other = other

-- the first so many qualifiers name groups above an entry exactly where they are no more than it reaches
pub reaches : (k : ℕ) (qs above : List (List ℕ)) → k ≤ length qs → Decides (qualifies (take k qs) above) (k ≤ reach qs above)
reaches zero qs above le = (λ h. omega arith, λ h. refl)
reaches (suc k) [] above le = absurd (omega (arith, le))
reaches (suc k) (q ∷ qs) [] le = (λ h. absurd (cc), λ h. absurd (omega (arith, h)))
reaches (suc k) (q ∷ qs) (a ∷ above) le =
    reach_step (bytes_eq q a) k (reach qs above) (reach (q ∷ qs) above) (qualifies (take k qs) above) (qualifies (take (suc k) (q ∷ qs)) above)
    (reaches k qs above (omega (arith, le))) (reaches (suc k) (q ∷ qs) above le)

count_behind : (name : List ℕ) (qs : List (List ℕ)) (bs : List (Bearer DraftEntry)) (b : Bearer DraftEntry)
    → length (named name qs (bs ++ b ∷ [])) ≡ length (named name qs bs) + length (named name qs (b ∷ []))
count_behind name qs bs b = ap length (filter-append (λ x. is_named name qs x) bs (b ∷ [])) ∙ length-append (named name qs bs) (named name qs (b ∷ []))

count_one : (name : List ℕ) (qs : List (List ℕ)) (b : Bearer DraftEntry) (t : Bool) → is_named name qs b ≡ t → length (named name qs (b ∷ [])) ≡ cond t 1 0
count_one name qs b true e = rw e refl
count_one name qs b false e = rw e refl

both : (x y t : Bool) → x ≡ true → y ≡ t → (x && y) ≡ t
both x y t is e = rw is e

never : (x y : Bool) → x ≡ false → (x && y) ≡ false
never x y is = rw is refl

-- as many are named with a further entry, and one more where that is named
counted : (name : List ℕ) (qs : List (List ℕ)) (bs : List (Bearer DraftEntry)) (b : Bearer DraftEntry) (t : Bool) → is_named name qs b ≡ t
    → length (named name qs (bs ++ b ∷ [])) ≡ length (named name qs bs) + cond t 1 0
counted name qs bs b t e = count_behind name qs bs b ∙ ap (λ n. length (named name qs bs) + n) (count_one name qs b t e)

not_true : (x : Bool) → (x ≡ true → ⊥) → x ≡ false
not_true true h = absurd (h refl)
not_true false h = refl

-- a further entry that bears the name and is reached so far
pub spread_further : (s t : NameSpread) (r : ℕ) (name : List ℕ) (qs : List (List ℕ)) (b : Bearer DraftEntry) (front : List (Bearer DraftEntry))
    → has_name name b.name ≡ true → r ≡ reach qs b.above → r ≤ length qs
    → ((k count : ℕ) → k ≤ r → IsSpread s k count → IsSpread t k (count + 1))
    → ((k count : ℕ) → r < k → IsSpread s k count → IsSpread t k count)
    → ((bound : ℕ) → s.most ≤ bound → r < bound → t.most ≤ bound)
    → Spreads s name qs front → Spreads t name qs (front ++ b ∷ [])
spread_further s t r name qs b front has is within more same bounded before =
    record {
      most = bounded (length qs + 1) before.most (omega (arith, within));
      each = λ k le.
          let test = reaches k qs b.above le in
          let cases : (k ≤ r) ⊎ (r < k) = grind arith in
          elim cases [
            | inl h ↦ subst (IsSpread t k) (sym (counted name (take k qs) front b true (both _ _ true has (test.1 (subst (λ n. k ≤ n) is h))))) (more k _ h (before.each k le))
            | inr h ↦ subst (IsSpread t k) (sym (counted name (take k qs) front b false (both _ _ false has (not_true _ (λ e. let far = test.0 e in absurd (omega (arith, far, is, h))))) ∙ omega arith))
                (same k _ h (before.each k le))
          ];
    }

-- one that does not bear it
pub spread_apart : (s : NameSpread) (name : List ℕ) (qs : List (List ℕ)) (b : Bearer DraftEntry) (front : List (Bearer DraftEntry)) → has_name name b.name ≡ false
    → Spreads s name qs front → Spreads s name qs (front ++ b ∷ [])
spread_apart s name qs b front has before =
    record {
      most = before.most;
      each = λ k le. subst (IsSpread s k) (sym (counted name (take k qs) front b false (never _ _ has) ∙ omega arith)) (before.each k le);
    }

-- no entry
pub spread_none : (s : NameSpread) (name : List ℕ) (qs : List (List ℕ)) → s.most ≡ 0 → s.next ≡ 0 → Spreads s name qs []
spread_none s name qs most next =
    record {
      most = omega (arith, most);
      each = λ k le. record { sorted = omega (arith, most, next); none = λ h. refl; one = λ h lt. absurd (omega (arith, lt, most)); several = λ lt. absurd (omega (arith, lt, next)) };
    }

-- the least number that names one alone
pub needed : (s : NameSpread) (name : List ℕ) (qs : List (List ℕ)) (all : List (Bearer DraftEntry)) → Spreads s name qs all → s.next < s.most → IsNeeded name qs all s.next
needed s name qs all h lt =
    record {
      names = (h.each s.next (omega (arith, h.most, lt))).one (omega arith) lt;
      fewer = λ k less one. let many = (h.each k (omega (arith, h.most, lt, less))).several less in absurd (omega (arith, many, one));
    }

-- and where there is none
pub not_needed : (s : NameSpread) (name : List ℕ) (qs : List (List ℕ)) (all : List (Bearer DraftEntry)) → Spreads s name qs all → (s.next < s.most → ⊥)
    → (k : ℕ) → k ≤ length qs → NamesOne name qs k all → ⊥
not_needed s name qs all h no_lt k le one =
    let at = h.each k le in
    let cases : (k < s.next) ⊎ (s.next ≤ k) = grind arith in
    elim cases [
      | inl less ↦ let many = at.several less in absurd (omega (arith, many, one))
      | inr more ↦
          let gone : s.most ≤ s.next = omega (arith, no_lt) in
          let none = at.none (omega (arith, gone, more)) in
          absurd (omega (arith, none, one))
    ]

at_next : (xs : List (Listed ListedEntry)) (i : ℕ) (x : Listed ListedEntry) → i < length xs → x ≡ get_or xs i x → map listed_bearer (take (suc i) xs) ≡ map listed_bearer (take i xs) ++ listed_bearer x ∷ []
at_next [] i x lt is = absurd (omega (arith, lt))
at_next (y ∷ xs) zero x lt is = ap (λ (z : Listed ListedEntry). listed_bearer z ∷ []) (sym is)
at_next (y ∷ xs) (suc i) x lt is = ap (λ (t : List (Bearer DraftEntry)). listed_bearer y ∷ t) (at_next xs i x (omega (arith, lt)) is)

-- the first entries of a list, and one more
pub listed_next : (xs : List (Listed ListedEntry)) (i : ℕ) (x : Listed ListedEntry) → i < length xs → x ≡ get_or xs i x → map listed_bearer (take (i + 1) xs) ≡ map listed_bearer (take i xs) ++ listed_bearer x ∷ []
listed_next xs i x lt is = rw add-one (at_next xs i x lt is)
