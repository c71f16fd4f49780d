-- Places by counts that are kept.
use Rattle.std.proofs.Common.{◌≡◌, ◌⊎◌, ℕ, ◌+◌, ◌<◌, ◌==◌, ◌&&◌, nat_le, min, Bool, true, false, List, [], ◌∷◌, ◌++◌, length, replicate, Option, Some, None, refl, sym, ap, subst, ◌∙◌, arith, inl, inr, Ok, append-nil}
use Rattle.std.specs.Prelude.{if◌then◌else◌, slice_index, slice_set}
use Rattle.std.proofs.lemmas.Bool.Decides.{nat_tests}
use Rattle.std.proofs.lemmas.List.{length-replicate, length-set}
use Rattle.cob_copybook_tree.specs.declared.node.ResolvedOccurs.{ResolvedOccurs}
use Rattle.cob_copybook_tree.specs.declared.node.ResolvedOccurs.TheVariants.{Once, Fixed, Varying}
use Rattle.cob_copybook_tree.specs.Forests.{Forest, NoEntries, AnEntry, entries_in}
use Rattle.cob_copybook_tree.specs.Nodes.{Resolved}
use Rattle.cob_layout_places.specs.declared.spots.Spot.{Spot}
use Rattle.cob_layout_places.specs.declared.varying.Table.{Table}
use Rattle.cob_layout_places.specs.Agree.{OnePlace}
use Rattle.cob_layout_places.specs.Counts.{table_of, tables_of, Taken}
use Rattle.cob_layout_places.specs.Lengths.{times, times_by}
use Rattle.cob_layout_places.specs.Needs.{Has, NeedsAreRead, is_needed, is_read, keep, number_behind}
use Rattle.cob_layout_places.specs.Places.{place_of}
use Rattle.cob_layout_places.specs.References.{Refers}
use Rattle.cob_layout_places.specs.Spots.{spots_of}
use Rattle.cob_layout.specs.declared.counts.StoredCount.{StoredCount}
use Rattle.cob_layout.specs.Counting.{greatest_counts, NeededOf}
use Rattle.cob_layout.specs.Finding.{PlacesAlike, are_all_met, are_met, is_kept_as, is_met}
use Rattle.cob_layout.specs.Kept.{AreKept, AreKeptOf, IsIn, IsKeptCount, IsStoredCount, TakenAnew, TakenBy, kept_after, kept_read, kept_number, kept_numbers, stored_at}
use Rattle.cob_layout.specs.Sound.{IsSound}
use Rattle.cob_layout.specs.Ways.{first_element}
use Rattle.cob_layout.proofs.ByteLemmas.{in_back, in_front}
use Rattle.cob_layout.proofs.GreatestLemmas.{AreSame, find_same}
use Rattle.cob_layout.proofs.KeepLaw.{first_found, some_is}
use Rattle.cob_layout.proofs.KeepingLemmas.{no_of, yes_of}
use Rattle.cob_layout.proofs.KeptLemmas.{Sofar, ends, kept_give_needed, of_table, one, reads_closed, start}
use Rattle.cob_layout.proofs.NeedLemmas.{greatest_own, known, needs_below, other_index, own_index, same_or_not, untouched}
use Rattle.cob_layout.proofs.ReferenceLemmas.{refers_has}
use Rattle.cob_layout.proofs.RefreshLemmas.{if_false, if_true, kept_behind, needed_anew, numbers_kept, numbers_read}
use Rattle.cob_layout.proofs.SpotLaw.{are_spots}
use Rattle.cob_layout.proofs.ThoseLemmas.{kept_those, one_number, rise_all, rise_high, those_in}

pub two_ways : (b : Bool) → (b ≡ true) ⊎ (b ≡ false)
two_ways true = inl refl
two_ways false = inr refl

-- ---- counts that agree on the tables put each entry in one place

one_time : (c d : List ℕ) (o : ResolvedOccurs) (n : ℕ) → ((x : Table) → IsIn x (table_of o n) → slice_index c x.number ≡ slice_index d x.number) → times_by (slice_index c n) o ≡ times_by (slice_index d n) o
one_time c d Once n h = refl
one_time c d (Fixed k) n h = refl
one_time c d (Varying least most count) n h = ap (λ (v : ℕ). min v most) (h (record { number = n; least = least; most = most; count = count }) (inl refl))

same_times : (c d : List ℕ) (f : Forest Resolved) → ((x : Table) → IsIn x (tables_of f) → slice_index c x.number ≡ slice_index d x.number) → AreSame (times c) (times d) f
same_times c d NoEntries h = tt
same_times c d (AnEntry e children more) h =
    let own : List Table = table_of e.occurs e.number in
    let rest : List Table = tables_of children ++ tables_of more in (
      one_time c d e.occurs e.number (λ x i. h x (in_front x own rest i)),
      same_times c d children (λ x i. h x (in_back x own rest (in_front x (tables_of children) (tables_of more) i))),
      same_times c d more (λ x i. h x (in_back x own rest (in_back x (tables_of children) (tables_of more) i))),
    )

-- the second counts, with those of the first in the places of these tables
abbrev over : List Table → List ℕ → List ℕ → List ℕ
over [] c d = d
over (x ∷ xs) c d = over xs c (slice_set d x.number (slice_index c x.number))

over_other : (xs : List Table) (c d : List ℕ) (k : ℕ) → ((x : Table) → IsIn x xs → x.number ≡ k → ⊥) → slice_index (over xs c d) k ≡ slice_index d k
over_other [] c d k none = refl
over_other (x ∷ xs) c d k none =
    over_other xs c (slice_set d x.number (slice_index c x.number)) k (λ y i. none y (inr i))
    ∙ other_index d x.number k (slice_index c x.number) (λ e. none x (inl refl) (sym e))

over_same : (xs : List Table) (c d : List ℕ) (k : ℕ) → ((x : Table) → IsIn x xs → x.number < length d) → slice_index d k ≡ slice_index c k → slice_index (over xs c d) k ≡ slice_index c k
over_same [] c d k room same = same
over_same (x ∷ xs) c d k room same =
    over_same xs c (slice_set d x.number (slice_index c x.number)) k (λ y i. omega (arith, room y (inr i), length-set d x.number (slice_index c x.number)))
    (elim (same_or_not k x.number) [
      | inl here ↦ own_index d x.number k (slice_index c x.number) here (room x (inl refl)) ∙ ap (λ (n : ℕ). slice_index c n) (sym here)
      | inr other ↦ other_index d x.number k (slice_index c x.number) other ∙ same
    ])

over_own : (xs : List Table) (c d : List ℕ) (z : Table) → ((x : Table) → IsIn x xs → x.number < length d) → IsIn z xs → slice_index (over xs c d) z.number ≡ slice_index c z.number
over_own [] c d z room i = absurd i
over_own (x ∷ xs) c d z room (inl e) =
    let here : z.number ≡ x.number = ap (λ (y : Table). y.number) e in
    over_same xs c (slice_set d x.number (slice_index c x.number)) z.number (λ y i. omega (arith, room y (inr i), length-set d x.number (slice_index c x.number)))
    (own_index d x.number z.number (slice_index c x.number) here (room x (inl refl)) ∙ ap (λ (n : ℕ). slice_index c n) (sym here))
over_own (x ∷ xs) c d z room (inr i) =
    over_own xs c (slice_set d x.number (slice_index c x.number)) z (λ y j. omega (arith, room y (inr j), length-set d x.number (slice_index c x.number))) i

-- counts that agree on the tables below the reach of an entry put it in one place
place_below : NeedsAreRead → OnePlace → (t : Forest Resolved) (r : ℕ) (c d : List ℕ) → IsSound t → Has r t → length d ≡ entries_in t
    → ((x : Table) → IsIn x (tables_of t) → x.number < number_behind true r t → slice_index c x.number ≡ slice_index d x.number) → PlacesAlike t r c d
place_below read place t r c d s has long agree subscripts =
    let xs : List Table = tables_of t in
    let m : List ℕ = over xs c d in
    let room : (x : Table) → IsIn x xs → x.number < length d = λ x i. omega (arith, long, rise_high 0 (0 + entries_in t) xs x (rise_all t 0 (0 + entries_in t) s.numbered refl) i) in
    find_same (times c) (times m) r t 0 0 subscripts (same_times c m t (λ x i. sym (over_own xs c d x room i)))
    ∙ place m d t r subscripts s.numbered has (λ y there needs. elim (of_table xs y) [
      | inl found ↦ (let (z, i, same) = found in
          let low : y < number_behind true r t = needs_below read t r y s.numbered has there needs in
          ap (λ (n : ℕ). slice_index m n) (sym same) ∙ over_own xs c d z room i ∙ agree z i (omega (arith, low, same)) ∙ ap (λ (n : ℕ). slice_index d n) same)
      | inr none ↦ over_other xs c d y none
    ])

-- ---- a record that stands as a reference needs it

pub and_both : (a b : Bool) → (a && b) ≡ true → (a ≡ true) × (b ≡ true)
and_both true true e = (refl, refl)
and_both true false e = cc
and_both false b e = cc

below_reach : (behind : ℕ) (last : Bool) (r : ℕ) (x : Table) → is_needed behind last r x ≡ true → x.number < behind
below_reach behind last r x h = grind (arith, nat_tests)

not_past : (behind k : ℕ) → k < behind → nat_le behind k ≡ false
not_past behind k lt = grind (arith, nat_tests)

is_yes : (a b : ℕ) → (a == b) ≡ true → a ≡ b
is_yes a b h = grind (arith, nat_tests)

asked : (a b p q : Bool) → a ≡ false → b ≡ true → (if a then true else if b then p else q) ≡ true → p ≡ true
asked false true p q e f h = h
asked true b p q e f h = absurd (cc)
asked false false p q e f h = absurd (cc)

spared : (a b p q : Bool) → a ≡ false → b ≡ false → (if a then true else if b then p else q) ≡ true → q ≡ true
spared false false p q e f h = h
spared true b p q e f h = absurd (cc)
spared false true p q e f h = absurd (cc)

kept_as : (k : Option StoredCount) (n : ℕ) → is_kept_as k n ≡ true → (j : StoredCount) × (k ≡ Some j) × (j.number ≡ n)
kept_as None n h = absurd (cc)
kept_as (Some j) n h = (j, refl, is_yes j.number n h)

-- of a table that is read, the count is kept
pub met_read : (behind : ℕ) (last : Bool) (r : ℕ) (x : Table) (k : Option StoredCount) (n : ℕ) → is_met behind last r x k n ≡ true → is_needed behind last r x ≡ true → (j : StoredCount) × (k ≡ Some j) × (j.number ≡ n)
met_read behind last r x k n met reads =
    kept_as k n (asked (nat_le behind x.number) (is_needed behind last r x) (is_kept_as k n) (n == x.most) (not_past behind x.number (below_reach behind last r x reads)) reads met)

-- and one that is spared has its greatest number
met_spared : (behind : ℕ) (last : Bool) (r : ℕ) (x : Table) (k : Option StoredCount) (n : ℕ) → is_met behind last r x k n ≡ true → x.number < behind → is_needed behind last r x ≡ false → n ≡ x.most
met_spared behind last r x k n met lt skips =
    is_yes n x.most (spared (nat_le behind x.number) (is_needed behind last r x) (is_kept_as k n) (n == x.most) (not_past behind x.number lt) skips met)

-- none is read anew
taken_met : (t : Forest Resolved) (bytes : List ℕ) (behind : ℕ) (last : Bool) (r : ℕ) (e : List ℕ) (xs : List Table) (ks : List (Option StoredCount)) (c : List ℕ) → are_met behind last r e xs ks ≡ true
    → (d : List ℕ) × TakenAnew t bytes (is_needed behind last r) xs (kept_numbers ks) c (Ok d) 0
taken_met t bytes behind last r e [] ks c h = (c, (refl, refl))
taken_met t bytes behind last r e (x ∷ xs) [] c h = absurd (cc)
taken_met t bytes behind last r e (x ∷ xs) (k ∷ ks) c h =
    let (own, rest) = and_both (is_met behind last r x k (slice_index e x.number)) (are_met behind last r e xs ks) h in
    elim (two_ways (is_needed behind last r x)) [
      | inl reads ↦ (let (j, is, same) = met_read behind last r x k (slice_index e x.number) own reads in
          let (d, taken) = taken_met t bytes behind last r e xs ks (slice_set c x.number j.number) rest in (
            d,
            yes_of (is_needed behind last r x) (TakenBy t bytes x (kept_number k) c (Ok d) 0 (λ b m. TakenAnew t bytes (is_needed behind last r) xs (kept_numbers ks) b (Ok d) m)) (TakenAnew t bytes (is_needed behind last r) xs (kept_numbers ks) c (Ok d) 0) reads
                (subst (λ (o : Option StoredCount). TakenBy t bytes x (kept_number o) c (Ok d) 0 (λ b m. TakenAnew t bytes (is_needed behind last r) xs (kept_numbers ks) b (Ok d) m)) (sym is) taken),
          ))
      | inr skips ↦ (let (d, taken) = taken_met t bytes behind last r e xs ks c rest in (
        d,
        no_of (is_needed behind last r x) (TakenBy t bytes x (kept_number k) c (Ok d) 0 (λ b m. TakenAnew t bytes (is_needed behind last r) xs (kept_numbers ks) b (Ok d) m)) (TakenAnew t bytes (is_needed behind last r) xs (kept_numbers ks) c (Ok d) 0) skips taken,
      ))
    ]

-- the counts that are read are those of the storage
pub stored_met : (t : Forest Resolved) (bytes : List ℕ) (behind : ℕ) (last : Bool) (r : ℕ) (e : List ℕ) (xs : List Table) (ks : List (Option StoredCount)) (y : Table) → AreKept t bytes xs (kept_numbers ks)
    → are_met behind last r e xs ks ≡ true → IsIn y xs → is_needed behind last r y ≡ true → IsStoredCount t bytes y (slice_index e y.number)
stored_met t bytes behind last r e [] ks y kept h i reads = absurd i
stored_met t bytes behind last r e (x ∷ xs) [] y kept h i reads = absurd (cc)
stored_met t bytes behind last r e (x ∷ xs) (k ∷ ks) y kept h (inl same) reads =
    let (own, rest) = and_both (is_met behind last r x k (slice_index e x.number)) (are_met behind last r e xs ks) h in
    let (j, is, number) = met_read behind last r x k (slice_index e x.number) own (subst (λ (z : Table). is_needed behind last r z ≡ true) same reads) in
    let stored : IsStoredCount t bytes x j.number = subst (λ (o : Option StoredCount). IsKeptCount t bytes x (kept_number o)) is kept.0 in
    subst (λ (z : Table). IsStoredCount t bytes z (slice_index e z.number)) (sym same) (subst (λ (n : ℕ). IsStoredCount t bytes x n) number stored)
stored_met t bytes behind last r e (x ∷ xs) (k ∷ ks) y kept h (inr i) reads =
    let (own, rest) = and_both (is_met behind last r x k (slice_index e x.number)) (are_met behind last r e xs ks) h in
    stored_met t bytes behind last r e xs ks y kept.1 rest i reads

-- and the others below the reach are the greatest ones
most_met : (behind : ℕ) (last : Bool) (r : ℕ) (e : List ℕ) (xs : List Table) (ks : List (Option StoredCount)) (y : Table) → are_met behind last r e xs ks ≡ true
    → IsIn y xs → y.number < behind → is_needed behind last r y ≡ false → slice_index e y.number ≡ y.most
most_met behind last r e [] ks y h i lt skips = absurd i
most_met behind last r e (x ∷ xs) [] y h i lt skips = absurd (cc)
most_met behind last r e (x ∷ xs) (k ∷ ks) y h (inl same) lt skips =
    let (own, rest) = and_both (is_met behind last r x k (slice_index e x.number)) (are_met behind last r e xs ks) h in
    let here : y.number ≡ x.number = ap (λ (z : Table). z.number) same in
    ap (λ (z : Table). slice_index e z.number) same
    ∙ met_spared behind last r x k (slice_index e x.number) own (omega (arith, lt, here)) (subst (λ (z : Table). is_needed behind last r z ≡ false) same skips)
    ∙ ap (λ (z : Table). z.most) (sym same)
most_met behind last r e (x ∷ xs) (k ∷ ks) y h (inr i) lt skips =
    let (own, rest) = and_both (is_met behind last r x k (slice_index e x.number)) (are_met behind last r e xs ks) h in
    most_met behind last r e xs ks y rest i lt skips

-- what is kept is as it was
after_met : (behind : ℕ) (last : Bool) (r : ℕ) (d e : List ℕ) (xs : List Table) (ks : List (Option StoredCount)) → length ks ≡ length xs → are_met behind last r e xs ks ≡ true
    → ((y : Table) → IsIn y xs → is_needed behind last r y ≡ true → slice_index d y.number ≡ slice_index e y.number) → kept_numbers ks ≡ kept_after (is_needed behind last r) d xs (kept_numbers ks)
after_met behind last r d e [] [] long h same = refl
after_met behind last r d e [] (k ∷ ks) long h same = absurd (omega (arith, long))
after_met behind last r d e (x ∷ xs) [] long h same = absurd (omega (arith, long))
after_met behind last r d e (x ∷ xs) (k ∷ ks) long h same =
    let (own, rest) = and_both (is_met behind last r x k (slice_index e x.number)) (are_met behind last r e xs ks) h in
    let first : kept_number k ≡ (if is_needed behind last r x then Some (slice_index d x.number) else kept_number k) = elim (two_ways (is_needed behind last r x)) [
      | inl reads ↦ (let (j, is, number) = met_read behind last r x k (slice_index e x.number) own reads in
          ap kept_number is ∙ ap (λ (n : ℕ). Some n) (number ∙ sym (same x (inl refl) reads)) ∙ sym (if_true (is_needed behind last r x) (Some (slice_index d x.number)) (kept_number k) reads))
      | inr skips ↦ sym (if_false (is_needed behind last r x) (Some (slice_index d x.number)) (kept_number k) skips)
    ] in
    let others = after_met behind last r d e xs ks (omega (arith, long)) rest (λ y i. same y (inr i)) in
    λ i. first i ∷ others i

in_keep : (test : Table → Bool) (xs : List Table) (x : Table) → IsIn x (keep test xs) → IsIn x xs × (test x ≡ true)
in_keep test xs x i = those_in (λ (y : Table). test y ≡ true) xs (keep test xs) x (kept_those (λ (y : Table). test y ≡ true) test xs (λ y j. ((λ e. e), (λ e. e)))) i

not_both : (b : Bool) → b ≡ true → b ≡ false → ⊥
not_both b t f = cc

-- counts that are taken have the greatest number of a table that isn't read
greatest_stays : (t : Forest Resolved) (bytes : List ℕ) (read : Table → Bool) (d : List ℕ) (y : Table) → IsSound t → Taken t bytes (keep read (tables_of t)) (greatest_counts t) (Ok d)
    → IsIn y (tables_of t) → read y ≡ false → slice_index d y.number ≡ y.most
greatest_stays t bytes read d y s taken i skips =
    let last : ℕ = 0 + entries_in t in
    let rise = rise_all t 0 last s.numbered refl in
    untouched t bytes (keep read (tables_of t)) (greatest_counts t) d y.number
    (λ x j same. (let (there, reads) = in_keep read (tables_of t) x j in
    not_both (read y) (subst (λ (z : Table). read z ≡ true) (one_number 0 last (tables_of t) x y rise there i same) reads) skips))
    taken
    ∙ greatest_own 0 last (tables_of t) (replicate (entries_in t) 0) y rise (omega (arith, length-replicate {A = ℕ} (entries_in t) 0)) i

-- What a reference has where all that it reads is kept and the counts are what it asks: the counts that it needs, none of which is read anew, give it
-- the place that it has under these counts.
pub record MeetsBy (t : Forest Resolved) (bytes : List ℕ) (r : ℕ) (receiving : Bool) (ks : List (Option StoredCount)) (e : List ℕ) : Type 0 where
  pub counts : List ℕ
  pub taken : TakenAnew t bytes (is_read t r receiving) (tables_of t) (kept_numbers ks) (greatest_counts t) (Ok counts) 0
  pub needed : NeededOf t r receiving bytes (Ok counts)
  pub place : PlacesAlike t r e counts
  pub kept : kept_numbers ks ≡ kept_after (is_read t r receiving) counts (tables_of t) (kept_numbers ks)

pub meets_by : NeedsAreRead → OnePlace → (t : Forest Resolved) (bytes : List ℕ) (r : ℕ) (receiving : Bool) (subscripts : List ℕ) (ks : List (Option StoredCount)) (e : List ℕ) → IsSound t → Refers r subscripts t
    → length ks ≡ length (tables_of t) → AreKeptOf t bytes ks → are_met (number_behind true r t) (receiving && (number_behind false r t == entries_in t)) r e (tables_of t) ks ≡ true
    → MeetsBy t bytes r receiving ks e
meets_by read place t bytes r receiving subscripts ks e sound refers long keeps met =
    let behind : ℕ = number_behind true r t in
    let last : Bool = receiving && (number_behind false r t == entries_in t) in
    let xs : List Table = tables_of t in
    let has : Has r t = refers_has r subscripts t refers in
    let kept : AreKept t bytes xs (kept_numbers ks) = numbers_kept t bytes ks long keeps in
    let (d, taken) = taken_met t bytes behind last r e xs ks (greatest_counts t) met in
    let so : Sofar t bytes (is_read t r receiving) [] d = ends place t bytes (is_read t r receiving) sound (reads_closed t r receiving sound) xs (kept_numbers ks) (greatest_counts t) d 0 (start t bytes (is_read t r receiving) sound) kept taken in
    let agree : (y : Table) → IsIn y xs → is_needed behind last r y ≡ true → slice_index d y.number ≡ slice_index e y.number =
    λ y i reads. one place t bytes sound y (slice_index d y.number) (slice_index e y.number) i (so.before y i reads (λ j. j)) (stored_met t bytes behind last r e xs ks y kept met i reads) in
    let own : Taken t bytes (keep (is_read t r receiving) xs) (greatest_counts t) (Ok d) = kept_give_needed place t bytes r receiving (kept_numbers ks) (Ok d) 0 sound kept taken in
    let below : (x : Table) → IsIn x xs → x.number < behind → slice_index e x.number ≡ slice_index d x.number = λ x i lt. elim (two_ways (is_needed behind last r x)) [
      | inl reads ↦ sym (agree x i reads)
      | inr skips ↦ most_met behind last r e xs ks x met i lt skips ∙ sym (greatest_stays t bytes (is_read t r receiving) d x sound own i skips)
    ] in
    record {
      counts = d;
      taken = taken;
      needed = needed_anew read place t bytes r receiving subscripts ks (Ok d) 0 sound refers long keeps taken;
      place = place_below read place t r e d sound has so.long below;
      kept = after_met behind last r d e xs ks long met agree;
    }

-- what a reference asks of the tables of the tree that a layout is seen as
pub met_in : (t u : Forest Resolved) (r : ℕ) (receiving : Bool) (behind : ℕ) (last : Bool) (number : ℕ) (tables : List Table) (e : List ℕ) (ks : List (Option StoredCount)) → t ≡ u → tables ≡ tables_of t
    → behind ≡ number_behind true r u → last ≡ (receiving && (number_behind false r u == entries_in u)) → number ≡ r
    → are_met behind last number e tables ks ≡ are_all_met u r receiving e ks
met_in t u r receiving behind last number tables e ks same all b l m =
    let xs : tables ≡ tables_of u = all ∙ ap (λ (v : Forest Resolved). tables_of v) same in
    λ i. are_met (b i) (l i) (m i) e (xs i) ks

-- ---- a record that is made to stand so

-- What a reference has where the counts were read that it needs, and the record was let stand under these below its reach.
pub record Comes (t : Forest Resolved) (bytes : List ℕ) (r : ℕ) (receiving : Bool) (ks now : List (Option StoredCount)) (d e : List ℕ) : Type 0 where
  pub needed : NeededOf t r receiving bytes (Ok d)
  pub place : PlacesAlike t r e d
  pub kept : kept_numbers now ≡ kept_after (is_read t r receiving) d (tables_of t) (kept_numbers ks)
  pub keeps : AreKeptOf t bytes now

-- what is kept behind a reading rests on the counts of the tables that are read alone
read_same : (read : Table → Bool) (d e : List ℕ) (spots places : List Spot) (xs : List Table) (ks : List (Option StoredCount)) → ((x : Table) → IsIn x xs → read x ≡ true → stored_at d spots x ≡ stored_at e places x)
    → kept_read read d spots xs ks ≡ kept_read read e places xs ks
read_same read d e spots places [] ks same = refl
read_same read d e spots places (x ∷ xs) [] same = refl
read_same read d e spots places (x ∷ xs) (k ∷ ks) same =
    let others = read_same read d e spots places xs ks (λ y i. same y (inr i)) in
    let first : (if read x then Some (stored_at d spots x) else k) ≡ (if read x then Some (stored_at e places x) else k) = elim (two_ways (read x)) [
      | inl reads ↦ if_true (read x) (Some (stored_at d spots x)) k reads ∙ ap (λ (v : StoredCount). Some v) (same x (inl refl) reads) ∙ sym (if_true (read x) (Some (stored_at e places x)) k reads)
      | inr skips ↦ if_false (read x) (Some (stored_at d spots x)) k skips ∙ sym (if_false (read x) (Some (stored_at e places x)) k skips)
    ] in
    λ i. first i ∷ others i

pub first_under : (t : Forest Resolved) (c : List ℕ) (spots : List Spot) (k : ℕ) → IsSound t → spots ≡ spots_of (times c) t 0 0 → Has k t → place_of (times c) k t 0 0 [] ≡ Some (first_element spots k)
first_under t c spots k s are has =
    first_found (times c) spots t 0 0 0 k s.numbered (are_spots (times c) t 0 0 0 [] [] spots refl s.numbered (are ∙ sym (append-nil (spots_of (times c) t 0 0)))) has

-- counts that agree below a number have one item of a count there, and give one number
stored_same : OnePlace → (t : Forest Resolved) (behind : ℕ) (x : Table) (d e : List ℕ) (spots places : List Spot) → IsSound t → IsIn x (tables_of t) → x.number < behind
    → ((k : ℕ) → k < behind → slice_index e k ≡ slice_index d k) → spots ≡ spots_of (times d) t 0 0 → places ≡ spots_of (times e) t 0 0 → stored_at e places x ≡ stored_at d spots x
stored_same place t behind x d e spots places s i lt agree are stand =
    let k = known t x s i in
    let found : first_element places x.count ≡ first_element spots x.count =
    some_is (first_element places x.count) (first_element spots x.count) (place_of (times e) x.count t 0 0 [])
    (first_under t e places x.count s stand k.has)
    (place e d t x.count [] s.numbered k.has (λ y has needs. (let le = k.earlier y needs in agree y (omega (arith, le, k.before, lt)))) ∙ first_under t d spots x.count s are k.has) in
    let number : slice_index e x.number ≡ slice_index d x.number = agree x.number lt in
    λ j. record { number = number j; place = record { offset = (found j).offset; length = (found j).length } }

pub comes : NeedsAreRead → OnePlace → (t : Forest Resolved) (bytes : List ℕ) (r : ℕ) (receiving : Bool) (subscripts : List ℕ) (ks now : List (Option StoredCount)) (d e : List ℕ) (spots : List Spot) (n : ℕ) → IsSound t
    → Refers r subscripts t → length ks ≡ length (tables_of t) → AreKeptOf t bytes ks
    → TakenAnew t bytes (is_read t r receiving) (tables_of t) (kept_numbers ks) (greatest_counts t) (Ok d) n
    → ((k : ℕ) → k < number_behind true r t → slice_index e k ≡ slice_index d k) → spots ≡ spots_of (times e) t 0 0
    → now ≡ kept_read (is_read t r receiving) e spots (tables_of t) ks → Comes t bytes r receiving ks now d e
comes read place t bytes r receiving subscripts ks now d e spots n s refers long kept taken agree stand is =
    let xs : List Table = tables_of t in
    let reads : Table → Bool = is_read t r receiving in
    let least : List Spot = spots_of (times d) t 0 0 in
    let so : Sofar t bytes reads [] d = ends place t bytes reads s (reads_closed t r receiving s) xs (kept_numbers ks) (greatest_counts t) d n (start t bytes reads s) (numbers_kept t bytes ks long kept) taken in
    let same : now ≡ kept_read reads d least xs ks = is
    ∙ read_same reads e d spots least xs ks (λ x i it. stored_same place t (number_behind true r t) x d e least spots s i (below_reach (number_behind true r t) (receiving && (number_behind false r t == entries_in t)) r x it) agree refl stand) in
    record {
      needed = needed_anew read place t bytes r receiving subscripts ks (Ok d) n s refers long kept taken;
      place = place_below read place t r e d s (refers_has r subscripts t refers) so.long (λ x i lt. agree x.number lt);
      kept = ap kept_numbers same ∙ numbers_read reads d least xs ks long;
      keeps = subst (λ (js : List (Option StoredCount)). AreKeptOf t bytes js) (sym same) (kept_behind place t bytes r receiving ks d n least s long kept refl taken);
    }
