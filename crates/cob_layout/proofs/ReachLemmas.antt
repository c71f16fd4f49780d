-- Counts and sums that reach up to a number.
use Rattle.std.proofs.Common.{◌≡◌, ℕ, ◌+◌, ◌<◌, ◌≤◌, ◌==◌, ◌&&◌, nat_le, Bool, true, false, List, [], ◌∷◌, length, take, drop, get_or, Option, Some, None, refl, sym, ap, subst, ◌∙◌, arith, inl, inr}
use Rattle.std.specs.Prelude.{if◌then◌else◌, slice_index}
use Rattle.std.proofs.lemmas.Bool.Decides.{nat_tests}
use Rattle.std.proofs.lemmas.List.{drop_more}
use Rattle.cob_copybook_tree.specs.Forests.{Forest, entries_in}
use Rattle.cob_copybook_tree.specs.Nodes.{Resolved}
use Rattle.cob_layout_places.specs.declared.varying.Table.{Table}
use Rattle.cob_layout_places.specs.Counts.{tables_of}
use Rattle.cob_layout_places.specs.Lengths.{times}
use Rattle.cob_layout_places.specs.Needs.{NeedsAreRead, is_needed, number_behind}
use Rattle.cob_layout_places.specs.References.{Refers}
use Rattle.cob_layout_places.specs.Spots.{spots_of}
use Rattle.cob_layout.specs.declared.counts.StoredCount.{StoredCount}
use Rattle.cob_layout.specs.Finding.{ReachIn, ReachTo, SparesNone, are_all_met, are_met, is_kept_as, is_met}
use Rattle.cob_layout.specs.Shifts.{grow_in, sums_of}
use Rattle.cob_layout.specs.Sound.{IsSound}
use Rattle.cob_layout.specs.Standing.{IsRoomFor, RoomForCounts, Standing}
use Rattle.cob_layout.proofs.FindLemmas.{and_both, met_read, two_ways}
use Rattle.cob_layout.proofs.Lists.{same}
use Rattle.cob_layout.proofs.NeedLemmas.{needs_below}
use Rattle.cob_layout.proofs.ReferenceLemmas.{refers_has}
use Rattle.cob_layout.proofs.ShiftLemmas.{length_growths}

-- ---- counts that are what a reference asks serve those that need fewer tables

pub both_are : (a b : Bool) → a ≡ true → b ≡ true → (a && b) ≡ true
both_are true b e f = f
both_are false b e f = absurd (cc)

pub past : (a b : Bool) → a ≡ true → (if a then true else b) ≡ true
past true b e = refl
past false b e = absurd (cc)

pub asked_of : (a b p q : Bool) → b ≡ true → p ≡ true → (if a then true else if b then p else q) ≡ true
asked_of true b p q e f = refl
asked_of false true p q e f = f
asked_of false false p q e f = absurd (cc)

pub is_below : (behind k : ℕ) → nat_le behind k ≡ false → k < behind
is_below behind k e = grind (arith, nat_tests)

needed_plain : (behind r : ℕ) (last : Bool) (x : Table) → behind ≤ r + 1 → x.number < behind → is_needed behind last r x ≡ true
needed_plain behind r true x le lt = grind (arith, nat_tests)
needed_plain behind r false x le lt = grind (arith, nat_tests)

pub needed_below : (behind r : ℕ) (last : Bool) (x : Table) → SparesNone behind last r → x.number < behind → is_needed behind last r x ≡ true
needed_below behind r last x (inl plain) lt = subst (λ (v : Bool). is_needed behind v r x ≡ true) (sym plain) (grind (arith, nat_tests))
needed_below behind r last x (inr le) lt = needed_plain behind r last x le lt

pub kept_so : (k : Option StoredCount) (j : StoredCount) (n : ℕ) → k ≡ Some j → j.number ≡ n → is_kept_as k n ≡ true
kept_so k j n is number = subst (λ (o : Option StoredCount). is_kept_as o n ≡ true) (sym is) (ap (λ (m : ℕ). m == n) number ∙ same n)

one_met : (behind reach r s : ℕ) (last ends : Bool) (x : Table) (k : Option StoredCount) (n : ℕ) → behind ≤ reach → SparesNone behind last r → SparesNone reach ends s → is_met reach ends s x k n ≡ true → is_met behind last r x k n ≡ true
one_met behind reach r s last ends x k n le own other met = elim (two_ways (nat_le behind x.number)) [
  | inl high ↦ past (nat_le behind x.number) (if is_needed behind last r x then is_kept_as k n else n == x.most) high
  | inr low ↦ (let lt : x.number < behind = is_below behind x.number low in
      let (j, is, number) = met_read reach ends s x k n met (needed_below reach s ends x other (omega (arith, lt, le))) in
      asked_of (nat_le behind x.number) (is_needed behind last r x) (is_kept_as k n) (n == x.most) (needed_below behind r last x own lt) (kept_so k j n is number))
]

met_below : (behind reach r s : ℕ) (last ends : Bool) (e : List ℕ) (xs : List Table) (ks : List (Option StoredCount)) → behind ≤ reach → SparesNone behind last r → SparesNone reach ends s → are_met reach ends s e xs ks ≡ true → are_met behind last r e xs ks ≡ true
met_below behind reach r s last ends e [] ks le own other met = refl
met_below behind reach r s last ends e (x ∷ xs) [] le own other met = absurd (cc)
met_below behind reach r s last ends e (x ∷ xs) (k ∷ ks) le own other met =
    let (first, rest) = and_both (is_met reach ends s x k (slice_index e x.number)) (are_met reach ends s e xs ks) met in
    both_are (is_met behind last r x k (slice_index e x.number)) (are_met behind last r e xs ks) (one_met behind reach r s last ends x k (slice_index e x.number) le own other first)
    (met_below behind reach r s last ends e xs ks le own other rest)

-- ---- counts are what is asked of tables from one on where they are so of that one and of those behind it

pub met_from : (behind : ℕ) (e : List ℕ) (xs : List Table) (ks : List (Option StoredCount)) (i n : ℕ) (x : Table) → i < length xs → length ks ≡ length xs → n ≡ slice_index e (get_or xs i x).number
    → is_met behind false 0 (get_or xs i x) (get_or ks i None) n ≡ true → are_met behind false 0 e (drop (i + 1) xs) (drop (i + 1) ks) ≡ true → are_met behind false 0 e (drop i xs) (drop i ks) ≡ true
met_from behind e xs ks i n x lt long is own rest =
    let here : i < length ks = omega (arith, lt, long) in
    let first : Table = get_or xs i x in
    let kept : Option StoredCount = get_or ks i None in
    ap (λ (ys : List Table). are_met behind false 0 e ys (drop i ks)) (drop_more xs i x lt)
    ∙ ap (λ (js : List (Option StoredCount)). are_met behind false 0 e (first ∷ drop (i + 1) xs) js) (drop_more ks i None here)
    ∙ both_are (is_met behind false 0 first kept (slice_index e first.number)) (are_met behind false 0 e (drop (i + 1) xs) (drop (i + 1) ks)) (ap (λ (m : ℕ). is_met behind false 0 first kept m) (sym is) ∙ own) rest

-- ---- what is known within a reach

pub reach_sums : (t : Forest Resolved) (reach : ℕ) (e sums : List ℕ) (ks : List (Option StoredCount)) → ReachIn t reach e sums ks → 0 < reach → take (grow_in t + 1) sums ≡ sums_of t e
reach_sums t reach e sums ks known some = ap (λ (n : ℕ). take (n + 1) sums) (sym (length_growths (spots_of (times []) t 0 0) 0 t)) ∙ (known some).1

reaches : (t : Forest Resolved) (reach : ℕ) (e sums : List ℕ) (ks : List (Option StoredCount)) → (0 < reach → are_met reach false 0 e (tables_of t) ks ≡ true) → take (grow_in t + 1) sums ≡ sums_of t e → ReachIn t reach e sums ks
reaches t reach e sums ks met are = λ some. (met some, ap (λ (n : ℕ). take (n + 1) sums) (length_growths (spots_of (times []) t 0 0) 0 t) ∙ are)

-- What is known of counts and sums that reach as far as a reference needs, which is spared none: it is asked what they are.
pub record Serves (t : Forest Resolved) (r : ℕ) (receiving : Bool) (e sums : List ℕ) (ks : List (Option StoredCount)) : Type 0 where
  pub met : are_all_met t r receiving e ks ≡ true
  pub sums_are : take (grow_in t + 1) sums ≡ sums_of t e

pub serves : NeedsAreRead → (t : Forest Resolved) (r number : ℕ) (receiving : Bool) (subscripts : List ℕ) (behind reach : ℕ) (last : Bool) (e sums : List ℕ) (ks : List (Option StoredCount)) → IsSound t → Refers r subscripts t
    → behind ≡ number_behind true r t → last ≡ (receiving && (number_behind false r t == entries_in t)) → number ≡ r → behind ≤ reach → SparesNone behind last number → ReachIn t reach e sums ks → Serves t r receiving e sums ks
serves read t r number receiving subscripts behind reach last e sums ks sound refers b l m le own known =
    let has = refers_has r subscripts t refers in
    let some : 0 < reach = omega (arith, needs_below read t r r sound.numbered has has (inr (inl refl)), b, le) in
    let met : are_met behind last number e (tables_of t) ks ≡ true = met_below behind reach number 0 last false e (tables_of t) ks le own (inl refl) (known some).0 in
    record {
      met = sym (λ i. are_met (b i) (l i) (m i) e (tables_of t) ks) ∙ met;
      sums_are = reach_sums t reach e sums ks known some;
    }

-- ---- how far counts reach

-- as far as before where they and what is kept are the same, and the sums theirs
pub reach_still : (t : Forest Resolved) (reach : ℕ) (e sums others : List ℕ) (ks : List (Option StoredCount)) → ReachIn t reach e sums ks → take (grow_in t + 1) others ≡ sums_of t e → ReachIn t reach e others ks
reach_still t reach e sums others ks known are = reaches t reach e others ks (λ some. (known some).0) are

-- and so far as they are kept
pub reach_kept : (t u : Forest Resolved) (reach : ℕ) (tables : List Table) (e sums : List ℕ) (ks : List (Option StoredCount)) → t ≡ u → tables ≡ tables_of t
    → are_met reach false 0 e tables ks ≡ true → take (grow_in u + 1) sums ≡ sums_of u e → ReachIn u reach e sums ks
reach_kept t u reach tables e sums ks seen all met are =
    let xs : tables ≡ tables_of u = all ∙ ap (λ (v : Forest Resolved). tables_of v) seen in
    reaches u reach e sums ks (λ some. ap (λ (ys : List Table). are_met reach false 0 e ys ks) (sym xs) ∙ met) are

-- so it is known of counts that are room for a record
pub reach_in : (t : Forest Resolved) (s u : Standing) (reach : ℕ) (next sums counts own : List ℕ) → s ≡ u → IsRoomFor t u → counts ≡ next → own ≡ sums → ReachTo reach next sums s.tables s.growths s.kept → ReachIn t reach counts own u.kept
reach_in t s u reach next sums counts own seen room is same known =
    let here : ReachTo reach counts own s.tables s.growths s.kept = subst (λ (cs : List ℕ). ReachTo reach cs own s.tables s.growths s.kept) (sym is) (subst (λ (ns : List ℕ). ReachTo reach next ns s.tables s.growths s.kept) (sym same) known) in
    let there : ReachTo reach counts own u.tables u.growths u.kept = subst (λ (v : Standing). ReachTo reach counts own v.tables v.growths v.kept) seen here in
    subst (λ (x : RoomForCounts). ReachTo reach counts own x.varying x.growths u.kept) room there
