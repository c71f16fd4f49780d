-- How many counts of the output record are read.
use Rattle.std.proofs.Common.{◌≡◌, ℕ, zero, suc, ◌+◌, ◌≤◌, Bool, true, false, ◌||◌, List, [], ◌∷◌, length, replicate, min, refl, ap, subst, ◌∙◌, arith, inl, inr, Ok, Err, Option, Some, None, ◌⊎◌, if◌then◌else◌}
use Rattle.std.proofs.Math.Nat.{add-mul}
use Rattle.cob_copybook_tree.specs.Forests.{Forest}
use Rattle.cob_copybook_tree.specs.Nodes.{Resolved}
use Rattle.cob_layout.specs.declared.counts.StoredCount.{StoredCount}
use Rattle.cob_layout.specs.declared.fields.Place.{Place}
use Rattle.cob_layout.specs.Kept.{IsIn, IsKeptAs, ReadOnce, TakenAnew, kept_after, kept_in, most_reads, kept_numbers, one_if, first_kept, others_kept}
use Rattle.cob_layout.specs.Standing.{RoomForCounts, Standing, forgotten, meets, meets_kept, written}
use Rattle.cob_layout_places.specs.declared.counts.CountFault.{CountFault}
use Rattle.cob_layout_places.specs.declared.varying.Table.{Table}
use Rattle.cob_layout_places.specs.Counts.{tables_of}
use Rattle.cob_move_apply.specs.Spent.{IsSpent, IsSpentAtStop, PlaceSpends, allowed, kept_of}
use Rattle.cob_move_apply.specs.Surveyed.{HasRoom, IsSurvey}
use Rattle.cob_move_apply.specs.declared.survey.Survey.{Survey}

-- ---- how many are kept

at_most_one : (k : Option ℕ) → one_if k ≤ 1
at_most_one None = omega arith
at_most_one (Some v) = omega arith

pub kept_below : (xs : List Table) (ks : List (Option ℕ)) → kept_in xs ks ≤ length xs
kept_below [] ks = omega arith
kept_below (x ∷ xs) ks = omega (arith, at_most_one (first_kept ks), kept_below xs (others_kept ks))

pub most_kept : (t : Forest Resolved) (s : Survey) → kept_of t s ≤ length (tables_of t)
most_kept t s = kept_below (tables_of t) (kept_numbers s.counts.kept)

none_kept : (xs : List Table) (n : ℕ) → kept_in xs (kept_numbers (replicate n None)) ≡ 0
none_kept [] n = refl
none_kept (x ∷ xs) zero = omega (arith, none_kept_of xs)
  where
    none_kept_of : (ys : List Table) → kept_in ys [] ≡ 0
    none_kept_of [] = refl
    none_kept_of (y ∷ ys) = omega (arith, none_kept_of ys)
none_kept (x ∷ xs) (suc n) = omega (arith, none_kept xs n)

-- ---- what is allowed

pub allowed_none : (t : Forest Resolved) → allowed t 0 ≡ 0
allowed_none t = omega arith

pub allowed_one : (t : Forest Resolved) → allowed t 1 ≡ length (tables_of t)
allowed_one t = omega arith

pub allowed_both : (t : Forest Resolved) (a b : ℕ) → allowed t (a + b) ≡ allowed t a + allowed t b
allowed_both t a b = add-mul a b (length (tables_of t))

-- ---- one behind another

pub spent_both : (t : Forest Resolved) (a b : ℕ) (old mid new : Survey) → IsSpent t a old mid → IsSpent t b mid new → IsSpent t (a + b) old new
spent_both t a b old mid new x y = record { most = omega (arith, x.most, y.most, allowed_both t a b) }

pub spent_stop : (t : Forest Resolved) (a b : ℕ) (old mid new : Survey) → IsSpent t a old mid → IsSpentAtStop t b mid new → IsSpentAtStop t (a + b) old new
spent_stop t a b old mid new x y = record { most = omega (arith, x.most, y.most, allowed_both t a b) }

pub spent_behind : (t : Forest Resolved) (a : ℕ) (old mid new : Survey) → IsSpent t 0 old mid → IsSpent t a mid new → IsSpent t a old new
spent_behind t a old mid new x y = record { most = omega (arith, x.most, y.most, allowed_none t) }

pub stop_behind : (t : Forest Resolved) (a : ℕ) (old mid new : Survey) → IsSpent t 0 old mid → IsSpentAtStop t a mid new → IsSpentAtStop t a old new
stop_behind t a old mid new x y = record { most = omega (arith, x.most, y.most, allowed_none t) }

pub stop_as : (t : Forest Resolved) (a b : ℕ) (old new : Survey) → a ≡ b → IsSpentAtStop t a old new → IsSpentAtStop t b old new
stop_as t a b old new same x = subst (λ (n : ℕ). IsSpentAtStop t n old new) same x

pub at_stop : (t : Forest Resolved) (a : ℕ) (old new : Survey) → IsSpent t a old new → IsSpentAtStop t a old new
at_stop t a old new x = record { most = omega (arith, x.most, most_kept t new) }

pub spent_none : (t : Forest Resolved) (s : Survey) → IsSpent t 0 s s
spent_none t s = record { most = omega (arith, allowed_none t) }

pub as_many : (t : Forest Resolved) (s : Survey) → HasRoom t s → length s.counts.kept ≡ length (tables_of t)
as_many t s room = ap (λ (counts : RoomForCounts). counts.tables) room

-- ---- a reading

-- where none was refused
pub read_spends : ReadOnce → (t : Forest Resolved) (bytes : List ℕ) (read : Table → Bool) (c d : List ℕ) (n : ℕ) (old new : Survey)
    → TakenAnew t bytes read (tables_of t) (kept_numbers old.counts.kept) c (Ok d) n → new.reads ≡ min (old.reads + n) most_reads
    → kept_numbers new.counts.kept ≡ kept_after read d (tables_of t) (kept_numbers old.counts.kept) → IsSpent t 0 old new
read_spends law t bytes read c d n old new taken reads kept =
    let xs : List Table = tables_of t in
    let once = (law t bytes read xs (kept_numbers old.counts.kept) c d (record { offset = 0; short = false }) n).0 taken in
    let same : kept_of t new ≡ kept_in xs (kept_after read d xs (kept_numbers old.counts.kept)) = ap (kept_in xs) kept in
    record { most = omega (arith, once, same, reads, allowed_none t) }

-- where one was refused
pub refused_spends : ReadOnce → (t : Forest Resolved) (bytes : List ℕ) (read : Table → Bool) (c : List ℕ) (e : CountFault) (n : ℕ) (old new : Survey)
    → TakenAnew t bytes read (tables_of t) (kept_numbers old.counts.kept) c (Err e) n → new.reads ≡ min (old.reads + n) most_reads → IsSpentAtStop t 0 old new
refused_spends law t bytes read c e n old new taken reads =
    let once = (law t bytes read (tables_of t) (kept_numbers old.counts.kept) c [] e n).1 taken in
    record { most = omega (arith, once, reads, allowed_none t) }

-- ---- a write

either : (a b : Bool) → (a || b) ≡ true → (a ≡ true) ⊎ (b ≡ true)
either true b e = inl refl
either false b e = inr e

-- a count that is kept whose item the place meets
met_kept : (p : Place) (xs : List Table) (ks : List (Option StoredCount)) → length ks ≡ length xs → meets_kept p ks ≡ true
    → (x : Table) × (k : StoredCount) × IsIn x xs × IsKeptAs x k xs ks × (meets p k.place ≡ true)
met_kept p xs [] long e = cc
met_kept p [] (k ∷ ks) long e = absurd (omega (arith, long))
met_kept p (x ∷ xs) (None ∷ ks) long e =
    let (y, j, is, kept, at) = met_kept p xs ks (omega (arith, long)) e in (y, j, inr is, inr kept, at)
met_kept p (x ∷ xs) (Some k ∷ ks) long e = elim (either (meets p k.place) (meets_kept p ks) e) [
  | inl here ↦ (x, k, inl refl, inl (refl, refl), here)
  | inr there ↦ (let (y, j, is, kept, at) = met_kept p xs ks (omega (arith, long)) there in (y, j, inr is, inr kept, at))
]

written_spends : (t : Forest Resolved) (before : List ℕ) (p : Place) (old new : Survey) (met : Bool) → meets_kept p old.counts.kept ≡ met → length old.counts.kept ≡ length (tables_of t) → IsSurvey t before old
    → new.reads ≡ old.reads → new.counts ≡ (if met then forgotten old.counts else old.counts) → PlaceSpends t before p old new
written_spends t before p old new true e long survey reads counts =
    let (x, k, is, kept, at) = met_kept p (tables_of t) old.counts.kept long e in
    (1, inr (refl, (x, k.place, is, survey.kept.items x k kept, at)), record { most = omega (arith, reads, most_kept t old, allowed_one t) })
written_spends t before p old new false e long survey reads counts =
    let same : kept_of t new ≡ kept_of t old = ap (λ (s : Standing). kept_in (tables_of t) (kept_numbers s.kept)) counts in
    (0, inl refl, record { most = omega (arith, reads, same, allowed_none t) })

pub wrote_spends : (t : Forest Resolved) (before : List ℕ) (p : Place) (old new : Survey) → IsSurvey t before old → new.reads ≡ old.reads → new.counts ≡ written p old.counts → PlaceSpends t before p old new
wrote_spends t before p old new survey reads counts =
    written_spends t before p old new (meets_kept p old.counts.kept) refl (as_many t old survey.room) survey reads counts

-- ---- nothing is kept

pub forgotten_none : (t : Forest Resolved) (old new : Standing) → new ≡ forgotten old → kept_in (tables_of t) (kept_numbers new.kept) ≡ 0
forgotten_none t old new same = ap (λ (s : Standing). kept_in (tables_of t) (kept_numbers s.kept)) same ∙ none_kept (tables_of t) (length old.kept)
