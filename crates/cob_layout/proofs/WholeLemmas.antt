-- The record itself, as a reference: it needs all counts, and its place is as long as the record.
use Rattle.std.proofs.Common.{◌≡◌, ℕ, ◌==◌, Bool, true, false, List, [], ◌∷◌, length, Option, Some, None, refl, sym, ap, subst, ◌∙◌, arith, inl, inr, Ok, Err, Result}
use Rattle.std.specs.Prelude.{not, option_map, if◌then◌else◌, slice_index}
use Rattle.std.proofs.lemmas.Bool.Decides.{nat_tests}
use Rattle.cob_copybook_entry.specs.declared.kinds.Usage.{Usage}
use Rattle.cob_copybook_entry.specs.declared.kinds.Sign.{Sign}
use Rattle.cob_copybook_entry.specs.Described.{PlainEntry}
use Rattle.cob_copybook_tree.specs.declared.node.ResolvedOccurs.{ResolvedOccurs}
use Rattle.cob_copybook_tree.specs.declared.node.ResolvedOccurs.TheVariants.{Once}
use Rattle.cob_copybook_tree.specs.Branches.{AreLevels, StandsFor}
use Rattle.cob_copybook_tree.specs.Forests.{Forest, NoEntries, AnEntry, flat}
use Rattle.cob_copybook_tree.specs.Nodes.{Resolved}
use Rattle.cob_copybook_tree.specs.Lengths.{element_length, greatest_number, sum_of}
use Rattle.cob_copybook_tree.specs.Resolving.{count_at, resolved, times_of}
use Rattle.cob_copybook_rules.specs.Tables as tables
use Rattle.cob_copybook.specs.Books.{IsRecordDescription}
use Rattle.cob_layout_places.specs.declared.counts.CountFault.{CountFault}
use Rattle.cob_layout_places.specs.declared.places.Found.{Found}
use Rattle.cob_layout_places.specs.declared.reference.Ref.{Ref}
use Rattle.cob_layout_places.specs.declared.varying.Table.{Table}
use Rattle.cob_layout_places.specs.Counts.{tables_of, Taken}
use Rattle.cob_layout_places.specs.Lengths.{times, times_by}
use Rattle.cob_layout_places.specs.Needs.{Has, Needs, NeedsAreRead, is_read}
use Rattle.cob_layout_places.specs.Places.{begins, choose, is_table, is_there, later, or_else, place_of}
use Rattle.cob_layout_places.specs.References.{IsSubscripted, Refers}
use Rattle.cob_layout.specs.declared.counts.StoredCount.{StoredCount}
use Rattle.cob_layout.specs.declared.fields.Place.{Place}
use Rattle.cob_layout.specs.declared.layout.PlaceFault.{PlaceFault}
use Rattle.cob_layout.specs.Counting.{greatest_counts, AreThose, CountsOf, IsRead, NeededOf}
use Rattle.cob_layout.specs.Kept.{IsIn, all_kept, first_kept, kept_after, kept_numbers, others_kept}
use Rattle.cob_layout.specs.Placed.{element_under, placed, placed_under}
use Rattle.cob_layout.specs.Sound.{IsSound}
use Rattle.cob_layout.specs.Standing.{IsRoomFor, Standing}
use Rattle.cob_layout.proofs.NeedLemmas.{known, table_has}
use Rattle.cob_layout.proofs.RecordLemmas.{length_is, room_tables}
use Rattle.cob_layout.proofs.RefreshLemmas.{if_true}
use Rattle.cob_layout.proofs.ThoseLemmas.{same_those}

-- ---- a record is no table

-- the first of these entries occurs once
abbrev pub OccursOnce : Forest Resolved → Type 0
OccursOnce NoEntries = ⊥
OccursOnce (AnEntry e children more) = e.occurs ≡ Once

once : (counts : List (Option ℕ)) (usage : Option Usage) (sign : Option Sign) (ds : List PlainEntry) (f : Forest PlainEntry) → StandsFor ds f → tables.AreTables 0 f → OccursOnce (resolved counts 0 usage sign f)
once counts usage sign ds NoEntries s h = let none : AreLevels [] = subst AreLevels (sym s.entries) s.levels in none
once counts usage sign ds (AnEntry e children more) s h =
    let levels : AreLevels (flat (AnEntry e children more)) = subst AreLevels (sym s.entries) s.levels in
    ap (λ o. times_of o (count_at counts 0)) (h.1 levels.0)

pub occurs_once : (t : Forest Resolved) → IsRecordDescription t → OccursOnce t
occurs_once t (role, text, book) =
    let is = book.is in
    let tree : resolved is.stored.counts 0 None None is.written ≡ t = sym is.stored.tree in
    subst OccursOnce tree (once is.stored.counts None None book.entries is.written is.stands is.agree.tables)

-- ---- it is referred to without subscripts

none_later : (b : Bool) → later b [] ≡ []
none_later false = refl
none_later true = refl

pub refers_whole : (t : Forest Resolved) → IsSound t → OccursOnce t → Refers 0 [] t
refers_whole NoEntries s is = absurd is
refers_whole (AnEntry e children more) s is =
    let plain : is_table e.occurs ≡ false = ap is_table is in
    inl (subst (λ (b : Bool). IsSubscripted b (greatest_number e) []) (sym plain) tt, inl (s.numbered.0, none_later (is_table e.occurs)))

-- ---- it stands there, and is as long as the record

all_there : (b : Bool) (n : ℕ) → is_there b n [] ≡ true
all_there false n = refl
all_there true n = refl

chosen : (own : Bool) (f : Found) (o p : Option Found) → own ≡ true → or_else (choose own f o) p ≡ Some f
chosen true f o p e = refl
chosen false f o p e = absurd (cc)

is_same : (a b : ℕ) → a ≡ b → (a == b) ≡ true
is_same a b e = grind (arith, nat_tests)

-- where it stands under counts
pub record Whole (t : Forest Resolved) (c : List ℕ) : Type 0 where
  pub found : Found
  pub stands : place_of (times c) 0 t 0 0 [] ≡ Some found
  pub within : found.within ≡ true
  pub long : found.length ≡ sum_of (times c) t

whole : (t : Forest Resolved) (c : List ℕ) → IsSound t → OccursOnce t → Whole t c
whole NoEntries c s is = absurd is
whole (AnEntry e children (AnEntry next beneath more)) c s is = absurd s.first
whole (AnEntry e children NoEntries) c s is =
    let start : ℕ = begins e.redefines 0 0 in
    let size : ℕ = element_length (times c) e children in
    let single : 1 ≡ times c e = sym (ap (λ (o : ResolvedOccurs). times_by (slice_index c e.number) o) is) in
    let all = length_is c e children 1 size s single refl in
    record {
      found = _;
      stands = chosen (e.number == 0) _ _ _ (is_same e.number 0 s.numbered.0);
      within = all_there (is_table e.occurs) (times c e);
      long = omega (arith, all);
    }

answered : (f : Found) → f.within ≡ true → placed f ≡ Ok (record { offset = f.offset; length = f.length })
answered f there = by f.within there
  where
    by : (b : Bool) → b ≡ true → if◌then◌else◌ {A = Result Place PlaceFault} b (Ok record { offset = f.offset; length = f.length }) (Err record { offset = f.offset }) ≡ Ok (record { offset = f.offset; length = f.length })
    by true there = refl
    by false there = absurd (cc)

one_answer : (a b : Result Place PlaceFault) → Some a ≡ Some b → a ≡ b
one_answer a b e = cc

one_place : (a b : Place) → ◌≡◌ {A = Result Place PlaceFault} (Ok a) (Ok b) → a ≡ b
one_place a b e = cc

-- what is answered of it
answer_is : (t : Forest Resolved) (c : List ℕ) (r : Ref) (answer : Result Place PlaceFault) (w : Whole t c) → r.node ≡ 0 → r.subscripts.items ≡ [] → placed_under c t r ≡ Some answer
    → Ok (record { offset = w.found.offset; length = w.found.length }) ≡ answer
answer_is t c r answer w own none is =
    let at : place_of (times c) r.node t 0 0 r.subscripts.items ≡ Some w.found = (λ i. place_of (times c) (own i) t 0 0 (none i)) ∙ w.stands in
    sym (answered w.found w.within) ∙ one_answer (placed w.found) answer (sym (ap (option_map placed) at) ∙ is)

pub whole_long : (t : Forest Resolved) (c : List ℕ) (r : Ref) (p : Place) → IsRecordDescription t → IsSound t → r.node ≡ 0 → r.subscripts.items ≡ [] → placed_under c t r ≡ Some (Ok p) → p.length ≡ sum_of (times c) t
whole_long t c r p is s own none at =
    let w : Whole t c = whole t c s (occurs_once t is) in
    sym (ap (λ (q : Place). q.length) (one_place (record { offset = w.found.offset; length = w.found.length }) p (answer_is t c r (Ok p) w own none at))) ∙ w.long

one_found : (a b : Found) → Some a ≡ Some b → a ≡ b
one_found a b e = cc

-- where it is found, it is as long as the record
pub found_long : (t : Forest Resolved) (c : List ℕ) (r : Ref) (f : Found) → IsRecordDescription t → IsSound t → r.node ≡ 0 → r.subscripts.items ≡ [] → element_under c t r ≡ Some f → f.length ≡ sum_of (times c) t
found_long t c r f is s own none at =
    let w : Whole t c = whole t c s (occurs_once t is) in
    let stands : element_under c t r ≡ Some w.found = (λ i. place_of (times c) (own i) t 0 0 (none i)) ∙ w.stands in
    sym (ap (λ (q : Found). q.length) (one_found w.found f (sym stands ∙ at))) ∙ w.long

-- ---- it needs all counts

not_receiving : false ≡ true → ⊥
not_receiving e = cc

-- each entry is the record or stands beneath it
needs_each : (t : Forest Resolved) (x : ℕ) → IsSound t → Has x t → Needs 0 x t
needs_each NoEntries x s has = absurd has
needs_each (AnEntry e children (AnEntry next beneath more)) x s has = absurd s.first
needs_each (AnEntry e children NoEntries) x s (inl own) = inr (inl (sym own ∙ s.numbered.0))
needs_each (AnEntry e children NoEntries) x s (inr (inl has)) = inr (inr (inr (inl (inl (s.numbered.0, has)))))
needs_each (AnEntry e children NoEntries) x s (inr (inr has)) = absurd has

reads_each : (t : Forest Resolved) (x : Table) → IsSound t → IsIn x (tables_of t) → IsRead t 0 false x
reads_each t x s i = (needs_each t x.number s (table_has t x s.numbered i), λ spared. not_receiving spared.0)

all_those : (P : Table → Type 0) (xs : List Table) → ((x : Table) → IsIn x xs → P x) → AreThose P xs xs
all_those P [] h = refl
all_those P (x ∷ xs) h = inl (h x (inl refl), (xs, refl, all_those P xs (λ y i. h y (inr i))))

pub needs_all : (t : Forest Resolved) (r : ℕ) (bytes : List ℕ) (result : Result (List ℕ) CountFault) → IsSound t → r ≡ 0 → NeededOf t r false bytes result → CountsOf t bytes result
needs_all t r bytes result s own needed =
    let (xs, those, taken) = subst (λ (k : ℕ). NeededOf t k false bytes result) own needed in
    let all : xs ≡ tables_of t = same_those (IsRead t 0 false) (tables_of t) xs (tables_of t) those (all_those (IsRead t 0 false) (tables_of t) (λ x i. reads_each t x s i)) in
    subst (λ (ys : List Table). Taken t bytes ys (greatest_counts t) result) all taken

-- ---- and all are kept

is_zero : (n : ℕ) → false ≡ not (n == 0) → n ≡ 0
is_zero n h = grind (arith, nat_tests)

none_each : (d : List ℕ) (xs : List Table) (ks : List (Option StoredCount)) → length xs ≡ 0 → length ks ≡ length xs → kept_numbers ks ≡ all_kept d xs
none_each d [] [] none long = refl
none_each d [] (k ∷ ks) none long = absurd (omega (arith, long))
none_each d (x ∷ xs) ks none long = absurd (omega (arith, none))

-- those of no table are none
pub keeps_none : (t : Forest Resolved) (s : Standing) (d : List ℕ) → IsRoomFor t s → false ≡ not (length (tables_of t) == 0) → kept_numbers s.kept ≡ all_kept d (tables_of t)
keeps_none t s d room none = none_each d (tables_of t) s.kept (is_zero (length (tables_of t)) none) (room_tables t s room)

kept_each : (read : Table → Bool) (d : List ℕ) (xs : List Table) (ks : List (Option ℕ)) → ((x : Table) → IsIn x xs → read x ≡ true) → kept_after read d xs ks ≡ all_kept d xs
kept_each read d [] ks h = refl
kept_each read d (x ∷ xs) ks h =
    let first : (if read x then Some (slice_index d x.number) else first_kept ks) ≡ Some (slice_index d x.number) = if_true (read x) (Some (slice_index d x.number)) (first_kept ks) (h x (inl refl)) in
    let others = kept_each read d xs (others_kept ks) (λ y i. h y (inr i)) in
    λ i. first i ∷ others i

has_first : (t : Forest Resolved) → IsSound t → Has 0 t
has_first NoEntries s = absurd s.first
has_first (AnEntry e children more) s = inl s.numbered.0

-- the record reads each
pub reads_whole : NeedsAreRead → (t : Forest Resolved) (r : ℕ) (x : Table) → IsSound t → r ≡ 0 → IsIn x (tables_of t) → is_read t r false x ≡ true
reads_whole read t r x s own i =
    let there = table_has t x s.numbered i in
    subst (λ (k : ℕ). is_read t k false x ≡ true) (sym own)
    ((read t 0 false x s.numbered (has_first t s) there (known t x s i).has).1 (needs_each t x.number s there, λ e spared. not_receiving e))

pub keeps_all : NeedsAreRead → (t : Forest Resolved) (r : ℕ) (d : List ℕ) (ks : List (Option ℕ)) → IsSound t → r ≡ 0 → kept_after (is_read t r false) d (tables_of t) ks ≡ all_kept d (tables_of t)
keeps_all read t r d ks s own = kept_each (is_read t r false) d (tables_of t) ks (λ x i. reads_whole read t r x s own i)

-- so it reads the only one
pub reads_lone : NeedsAreRead → (t : Forest Resolved) (r : ℕ) (x : Table) → IsSound t → r ≡ 0 → tables_of t ≡ x ∷ [] → is_read t r false x ≡ true
reads_lone read t r x s own only = reads_whole read t r x s own (subst (λ (xs : List Table). IsIn x xs) (sym only) (inl refl))
