-- The counts of a list of entries, one after the other.
use Rattle.std.proofs.Common.{◌≡◌, ℕ, ◌+◌, ◌<◌, arith, length, map, List, [], ◌∷◌, ◌++◌, Option, Result, Ok, Err, IfOk, IfErr, refl, sym, ap, subst, ◌∙◌, append_assoc}
use Rattle.std.proofs.lemmas.List.{append-nil}
use Rattle.cob_copybook_entry.specs.Described.{PlainEntry}
use Rattle.cob_copybook_entry.specs.declared.fault.BookFault.{BookFault}
use Rattle.cob_copybook_entry.specs.declared.fault.BookRule.{BookRule}
use Rattle.cob_copybook_entry.specs.declared.fault.BookRule.TheVariants as rule
use Rattle.cob_copybook_names.specs.declared.bearer.Bearer.{Bearer as Listed}
use Rattle.cob_copybook_names.specs.declared.fault.NameFault.{NameFault}
use Rattle.cob_copybook_names.specs.declared.fault.NameFault.TheVariants.{Unknown, Ambiguous}
use Rattle.cob_copybook_names.specs.declared.listing.NumberedEntry.{NumberedEntry as ListedEntry}
use Rattle.cob_copybook_names.specs.Naming.{Bearer, IsNameFault, named}
use Rattle.cob_copybook_names.specs.Listed.{seen}
use Rattle.cob_copybook_names.specs.Entries.{NumberedEntry, bearer_of, known_entry}
use Rattle.cob_copybook_names.specs.Counts.{IsCountOf, IsCountOfTable, AreCounts, IsRefusedAmong, MayCount}
use Rattle.cob_copybook_names.proofs.Namings.{known_fault, known_one}
use Rattle.cob_copybook_names.proofs.OneList.{one_list, one_only}

-- the entry that is named, by what is known of it
pub count_named : (bs : List (Listed ListedEntry)) (name own : List ℕ) (qualifiers quals : List (List ℕ)) (b : Listed ListedEntry) → own ≡ name → quals ≡ qualifiers
    → named own quals (map seen bs) ≡ seen b ∷ [] → named name qualifiers (map bearer_of bs) ≡ bearer_of b ∷ []
count_named bs name own qualifiers quals b e f is =
    known_one known_entry name qualifiers bs b
    (subst (λ (t : List ℕ). named t qualifiers (map seen bs) ≡ seen b ∷ []) e (subst (λ (t : List (List ℕ)). named own t (map seen bs) ≡ seen b ∷ []) f is))

-- where none or several are named, none is a count
missed : (all : List (Bearer NumberedEntry)) (n : ℕ) (name : List ℕ) (qualifiers : List (List ℕ)) (fault : NameFault) → IsNameFault fault (named name qualifiers all) → (c : ℕ) → IsCountOfTable all n name qualifiers c → ⊥
missed all n name qualifiers Unknown is c x = let e : [] ≡ x.bearer ∷ [] = sym is ∙ x.only in cc
missed all n name qualifiers Ambiguous is c x = let e = ap length x.only in omega (arith, e, is)

pub count_missed : (bs : List (Listed ListedEntry)) (n : ℕ) (name own : List ℕ) (qualifiers quals : List (List ℕ)) (fault : NameFault) → own ≡ name → quals ≡ qualifiers
    → IsNameFault fault (named own quals (map seen bs)) → (c : ℕ) → IsCountOfTable (map bearer_of bs) n name qualifiers c → ⊥
count_missed bs n name own qualifiers quals fault e f is =
    missed (map bearer_of bs) n name qualifiers fault
    (known_fault known_entry name qualifiers bs fault
    (subst (λ (t : List ℕ). IsNameFault fault (named t qualifiers (map seen bs))) e (subst (λ (t : List (List ℕ)). IsNameFault fault (named own t (map seen bs))) f is)))

-- the one that is named is the count, if one is
pub count_same : (all : List (Bearer NumberedEntry)) (n : ℕ) (name : List ℕ) (qualifiers : List (List ℕ)) (b : Bearer NumberedEntry) → named name qualifiers all ≡ b ∷ [] → (c : ℕ) → IsCountOfTable all n name qualifiers c
    → (b.entry.number ≡ c) × MayCount b.entry × (b.entry.number < n)
count_same all n name qualifiers b is c x =
    let same : b ≡ x.bearer = one_only _ b x.bearer is x.only in
    let number = ap (λ (y : Bearer NumberedEntry). y.entry.number) same ∙ x.number in
    (number, subst (λ (y : Bearer NumberedEntry). MayCount y.entry) (sym same) x.may, omega (arith, number, x.before))

-- the count of the next entry goes from what is left to what is done
pub step_left : (all : List (Bearer NumberedEntry)) (whole left : List PlainEntry) (n : ℕ) (e : PlainEntry) (rest : List PlainEntry) (done cs : List (Option ℕ)) (count : Option ℕ) → left ≡ e ∷ rest
    → ((cs : List (Option ℕ)) → AreCounts all n left cs → AreCounts all 0 whole (done ++ cs)) → IsCountOf all n e.occurs count → AreCounts all (n + 1) rest cs → AreCounts all 0 whole ((done ++ count ∷ []) ++ cs)
step_left all whole left n e rest done cs count is so_far here h =
    subst (AreCounts all 0 whole) (sym (append_assoc done (count ∷ []) cs))
    (so_far (count ∷ cs) (subst (λ (es : List PlainEntry). AreCounts all n es (count ∷ cs)) (sym is) (count, cs, refl, here, h)))

pub step_whole : (all : List (Bearer NumberedEntry)) (left : List PlainEntry) (n : ℕ) (e : PlainEntry) (rest : List PlainEntry) (done cs : List (Option ℕ)) (count : Option ℕ) → left ≡ e ∷ rest
    → ((c : Option ℕ) → IsCountOf all n e.occurs c → count ≡ c) → (more : List (Option ℕ)) × (cs ≡ done ++ more) × AreCounts all n left more → (more : List (Option ℕ)) × (cs ≡ (done ++ count ∷ []) ++ more) × AreCounts all (n + 1) rest more
step_whole all left n e rest done cs count is one (more, split, h) =
    let (c, others, cut, here, further) = subst (λ (es : List PlainEntry). AreCounts all n es more) is h in
    (others, split ∙ ap (λ t. done ++ t) (cut ∙ ap (λ k. k ∷ others) (sym (one c here))) ∙ sym (append_assoc done (count ∷ []) others), further)

pub all_counted : (all : List (Bearer NumberedEntry)) (whole left : List PlainEntry) (n : ℕ) (done : List (Option ℕ)) → left ≡ []
    → ((cs : List (Option ℕ)) → AreCounts all n left cs → AreCounts all 0 whole (done ++ cs)) → AreCounts all 0 whole done
all_counted all whole left n done is so_far =
    subst (AreCounts all 0 whole) (append-nil done) (so_far [] (subst (λ (es : List PlainEntry). AreCounts all n es []) (sym is) refl))

-- an entry that can have no count leaves the record without counts
pub refused : (all : List (Bearer NumberedEntry)) (whole left : List PlainEntry) (n : ℕ) (e : PlainEntry) (rest : List PlainEntry) (done : List (Option ℕ)) (r : BookRule) → left ≡ e ∷ rest → r ≡ rule.Count
    → ((c : Option ℕ) → IsCountOf all n e.occurs c → ⊥) → ((cs : List (Option ℕ)) → AreCounts all 0 whole cs → (more : List (Option ℕ)) × (cs ≡ done ++ more) × AreCounts all n left more) → IsRefusedAmong all r whole
refused all whole left n e rest done r is count never so_far =
    subst (λ (x : BookRule). IsRefusedAmong all x whole) (sym count)
    (λ cs x. let (more, split, h) = so_far cs x in let (c, others, cut, here, further) = subst (λ (es : List PlainEntry). AreCounts all n es more) is h in never c here)

-- where there are counts, only memory can be refused
pub refused_memory : (all : List (Bearer NumberedEntry)) (r : BookRule) (es : List PlainEntry) (cs : List (Option ℕ)) → IsRefusedAmong all r es → AreCounts all 0 es cs → r ≡ rule.Memory
refused_memory all rule.Memory es cs h x = refl
refused_memory all rule.Count es cs h x = absurd (h cs x)
refused_memory all r es cs h x = absurd h

pub only_counts : {X : Type 0} (items : X → List (Option ℕ)) (all : List (Bearer NumberedEntry)) (es : List PlainEntry) (r : Result X BookFault)
    → IfOk r (λ v. AreCounts all 0 es (items v)) → IfErr r (λ f. IsRefusedAmong all f.rule es)
    → (cs : List (Option ℕ)) → AreCounts all 0 es cs → IfOk r (λ v. items v ≡ cs) × IfErr r (λ f. f.rule ≡ rule.Memory)
only_counts items all es (Ok v) found fault cs x = (one_list all 0 es (items v) cs found x, tt)
only_counts items all es (Err f) found fault cs x = (tt, refused_memory all f.rule es cs fault x)
