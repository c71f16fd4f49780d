-- Counts of a storage that are kept.
use Rattle.std.specs.Prelude.{◌≡◌, ◌⊎◌, ℕ, ◌+◌, ◌≤◌, min, Bool, MatchBool, List, [], ◌∷◌, Option, Some, None, Ok, Err, Result, length, if◌then◌else◌, map, option_map, slice_index, slice_set}
use Rattle.cob_copybook_tree.specs.Forests.{Forest}
use Rattle.cob_copybook_tree.specs.Nodes.{Resolved}
use Rattle.cob_layout_places.specs.declared.counts.CountFault.{CountFault}
use Rattle.cob_layout_places.specs.declared.reference.Ref.{Ref}
use Rattle.cob_layout_places.specs.declared.varying.Table.{Table}
use Rattle.cob_layout_places.specs.Counts.{tables_of, IsCounted, Taken}
use Rattle.cob_layout_places.specs.Needs.{is_needed, keep, is_read}
use Rattle.cob_layout.specs.Counting.{greatest_counts}
use Rattle.cob_layout.specs.Sound.{IsSound}
use Rattle.cob_layout.specs.declared.counts.StoredCount.{StoredCount}
use Rattle.cob_layout.specs.declared.fields.Place.{Place}
use Rattle.cob_layout.specs.declared.keeping.Needed.{Needed}
use Rattle.cob_layout.specs.Fields.{with_field}
use Rattle.cob_layout.specs.Ways.{spot_at}
use Rattle.cob_layout_places.specs.declared.places.Found.{Found}
use Rattle.cob_layout_places.specs.declared.spots.Spot.{Spot}
use Rattle.cob_layout_places.specs.Lengths.{times}
use Rattle.cob_layout_places.specs.Places.{place_of}

-- one of these
abbrev pub IsIn : {A : Type 0} → A → List A → Type 0
IsIn x [] = ⊥
IsIn x (y ∷ ys) = (x ≡ y) ⊎ IsIn x ys

-- no table that varies has this number
abbrev pub IsNoTable : Forest Resolved → ℕ → Type 0
IsNoTable tree k = (z : Table) → IsIn z (tables_of tree) → z.number ≡ k → ⊥

-- The count of a table in a storage: what its item gives under counts that are, up to the item, those of the tables there.
pub data IsStoredCount (tree : Forest Resolved) (bytes : List ℕ) : Table → ℕ → Type 0 where
  counted : (x : Table) (v : ℕ) (c : List ℕ)
      → ((y : Table) → IsIn y (tables_of tree) → y.number ≤ x.count → IsStoredCount tree bytes y (slice_index c y.number))
      → ((k : ℕ) → IsNoTable tree k → slice_index c k ≡ slice_index (greatest_counts tree) k)
      → IsCounted tree bytes x c (Ok v) → IsStoredCount tree bytes x v

-- the kept count of the first of these tables
abbrev pub first_kept : List (Option ℕ) → Option ℕ
first_kept [] = None
first_kept (k ∷ ks) = k

-- the kept counts of the other tables
abbrev pub others_kept : List (Option ℕ) → List (Option ℕ)
others_kept [] = []
others_kept (k ∷ ks) = ks

-- a count that is kept is that of the table
abbrev pub IsKeptCount : Forest Resolved → List ℕ → Table → Option ℕ → Type 0
IsKeptCount tree bytes x None = Unit {0}
IsKeptCount tree bytes x (Some v) = IsStoredCount tree bytes x v

-- those of these tables, in their order
abbrev pub AreKept : Forest Resolved → List ℕ → List Table → List (Option ℕ) → Type 0
AreKept tree bytes [] ks = Unit {0}
AreKept tree bytes (x ∷ xs) ks = IsKeptCount tree bytes x (first_kept ks) × AreKept tree bytes xs (others_kept ks)

-- What the bytes say of a table that is read, and then of others: a count that is kept is not read again; one that is not kept is read, one more
-- than for the others, and may be refused.
abbrev pub TakenBy : Forest Resolved → List ℕ → Table → Option ℕ → List ℕ → Result (List ℕ) CountFault → ℕ → (List ℕ → ℕ → Type 0) → Type 0
TakenBy tree bytes x (Some v) c r n others = others (slice_set c x.number v) n
TakenBy tree bytes x None c r n others =
    ((v m : ℕ) × IsCounted tree bytes x c (Ok v) × others (slice_set c x.number v) m × (n ≡ m + 1))
    ⊎ ((e : CountFault) × IsCounted tree bytes x c (Err e) × (r ≡ Err e) × (n ≡ 1))

-- What the bytes say of those of these tables that are read, one behind another, as `Taken` says it, where a count that is kept is not read again;
-- so many were read, the last of them refused or not.
abbrev pub TakenAnew : Forest Resolved → List ℕ → (Table → Bool) → List Table → List (Option ℕ) → List ℕ → Result (List ℕ) CountFault → ℕ → Type 0
TakenAnew tree bytes read [] ks c r n = (r ≡ Ok c) × (n ≡ 0)
TakenAnew tree bytes read (x ∷ xs) ks c r n =
    MatchBool (read x) (TakenBy tree bytes x (first_kept ks) c r n (λ d m. TakenAnew tree bytes read xs (others_kept ks) d r m))
    (TakenAnew tree bytes read xs (others_kept ks) c r n)

-- a kept count counts as one
abbrev pub one_if : Option ℕ → ℕ
one_if None = 0
one_if (Some v) = 1

-- how many counts of these tables are kept
abbrev pub kept_in : List Table → List (Option ℕ) → ℕ
kept_in [] ks = 0
kept_in (x ∷ xs) ks = one_if (first_kept ks) + kept_in xs (others_kept ks)

-- what is kept behind a reading with these counts: the counts of the tables that are read, and those that were kept before
abbrev pub kept_after : (Table → Bool) → List ℕ → List Table → List (Option ℕ) → List (Option ℕ)
kept_after read d [] ks = []
kept_after read d (x ∷ xs) ks = (if read x then Some (slice_index d x.number) else first_kept ks) ∷ kept_after read d xs (others_kept ks)

-- what is kept where the count of each of these tables is
abbrev pub all_kept : List ℕ → List Table → List (Option ℕ)
all_kept d xs = map (λ (x : Table). Some (slice_index d x.number)) xs

-- Each table is read once at most while its count is kept: as many are kept more as were read, and where a count is refused no more were read than were
-- not kept.
abbrev pub ReadOnce : Type 0
ReadOnce = (tree : Forest Resolved) (bytes : List ℕ) (read : Table → Bool) (xs : List Table) (ks : List (Option ℕ)) (c d : List ℕ) (e : CountFault) (n : ℕ)
    → (TakenAnew tree bytes read xs ks c (Ok d) n → n + kept_in xs ks ≡ kept_in xs (kept_after read d xs ks))
    × (TakenAnew tree bytes read xs ks c (Err e) n → n + kept_in xs ks ≤ length xs)

-- what is kept behind a reading are counts of the storage
abbrev pub KeptAfter : Type 0
KeptAfter = (tree : Forest Resolved) (bytes : List ℕ) (node : ℕ) (receiving : Bool) (ks : List (Option ℕ)) (d : List ℕ) (n : ℕ)
    → IsSound tree → AreKept tree bytes (tables_of tree) ks
    → TakenAnew tree bytes (is_read tree node receiving) (tables_of tree) ks (greatest_counts tree) (Ok d) n
    → AreKept tree bytes (tables_of tree) (kept_after (is_read tree node receiving) d (tables_of tree) ks)

-- Kept counts and those that are read anew are what a reference needs.
abbrev pub KeptGiveNeeded : Type 0
KeptGiveNeeded = (tree : Forest Resolved) (bytes : List ℕ) (node : ℕ) (receiving : Bool) (ks : List (Option ℕ)) (r : Result (List ℕ) CountFault) (n : ℕ)
    → IsSound tree → AreKept tree bytes (tables_of tree) ks
    → TakenAnew tree bytes (is_read tree node receiving) (tables_of tree) ks (greatest_counts tree) r n
    → Taken tree bytes (keep (is_read tree node receiving) (tables_of tree)) (greatest_counts tree) r

-- how many reads are counted: as many as there were, up to 2 ^ 64 - 1
abbrev pub most_reads : ℕ
most_reads = 18446744073709551615

-- what is said of one table that is read, and how many counts that takes
abbrev pub IsReadOne : Forest Resolved → List ℕ → Table → Option ℕ → List ℕ → Result ℕ CountFault → ℕ → Type 0
IsReadOne tree bytes x (Some w) c (Ok v) n = (v ≡ w) × (n ≡ 0)
IsReadOne tree bytes x (Some w) c (Err e) n = ⊥
IsReadOne tree bytes x None c r n = IsCounted tree bytes x c r × (n ≡ 1)

-- what an answer says of numbers that stand somewhere: that they are these now, or why there are none
abbrev pub outcome_of : {A E : Type 0} → Result A E → List ℕ → Result (List ℕ) E
outcome_of (Ok a) now = Ok now
outcome_of (Err e) now = Err e

-- the item of a table's count meets no byte of the place, wherever counts that are the storage's put it
abbrev pub StandsApart : Forest Resolved → List ℕ → Place → Table → Type 0
StandsApart tree bytes p x = (v : ℕ) (c : List ℕ) (f : Found)
    → ((y : Table) → IsIn y (tables_of tree) → y.number ≤ x.count → IsStoredCount tree bytes y (slice_index c y.number))
    → ((k : ℕ) → IsNoTable tree k → slice_index c k ≡ slice_index (greatest_counts tree) k)
    → IsCounted tree bytes x c (Ok v) → place_of (times c) x.count tree 0 0 [] ≡ Some f
    → (p.offset + p.length ≤ f.offset) ⊎ (f.offset + f.length ≤ p.offset)

-- Where the bytes of a place change, the counts stay whose items the place doesn't meet, and those before them.
abbrev pub WritesKeep : Type 0
WritesKeep = (tree : Forest Resolved) (before field : List ℕ) (p : Place) (x : Table) (v : ℕ) → IsSound tree → p.offset + p.length ≤ length before → length field ≡ p.length
    → IsIn x (tables_of tree) → ((y : Table) → IsIn y (tables_of tree) → y.number ≤ x.number → StandsApart tree before p y)
    → IsStoredCount tree before x v → IsStoredCount tree (with_field before p field) x v

-- ---- counts that are kept with the places of their items

-- the count of the table x that is kept among those of these tables is this one
abbrev pub IsKeptAs : Table → StoredCount → List Table → List (Option StoredCount) → Type 0
IsKeptAs x k [] ks = ⊥
IsKeptAs x k (y ∷ ys) [] = ⊥
IsKeptAs x k (y ∷ ys) (j ∷ js) = ((x ≡ y) × (j ≡ Some k)) ⊎ IsKeptAs x k ys js

-- the item of a table's count stands there in a storage, under counts that are, up to the item, those of the tables there
pub record HasItemAt (tree : Forest Resolved) (bytes : List ℕ) (x : Table) (p : Place) : Type 0 where
  pub counts : List ℕ
  pub found : Found
  pub before : (y : Table) → IsIn y (tables_of tree) → y.number ≤ x.count → IsStoredCount tree bytes y (slice_index counts y.number)
  pub beside : (k : ℕ) → IsNoTable tree k → slice_index counts k ≡ slice_index (greatest_counts tree) k
  pub stands : place_of (times counts) x.count tree 0 0 [] ≡ Some found
  pub offset : p.offset ≡ found.offset
  pub length : p.length ≡ found.length

-- The counts that are kept are those of a storage: their numbers, and the places of their items; and with the count of a table those are kept that stand
-- before its item.
pub record AreKeptOf (tree : Forest Resolved) (bytes : List ℕ) (ks : List (Option StoredCount)) : Type 0 where
  pub numbers : (x : Table) (k : StoredCount) → IsKeptAs x k (tables_of tree) ks → IsStoredCount tree bytes x k.number
  pub items : (x : Table) (k : StoredCount) → IsKeptAs x k (tables_of tree) ks → HasItemAt tree bytes x k.place
  pub closed : (x y : Table) (k : StoredCount) → IsKeptAs x k (tables_of tree) ks → IsIn y (tables_of tree) → y.number ≤ x.count
      → (j : StoredCount) × IsKeptAs y j (tables_of tree) ks

-- the number of a count that is kept
abbrev pub kept_number : Option StoredCount → Option ℕ
kept_number k = option_map (λ (stored : StoredCount). stored.number) k

-- those of several
abbrev pub kept_numbers : List (Option StoredCount) → List (Option ℕ)
kept_numbers ks = map kept_number ks

-- the count of a table, where the counts are these and the entries stand at these spots
abbrev pub stored_at : List ℕ → List Spot → Table → StoredCount
stored_at d spots x = record {
  number = slice_index d x.number;
  place = record { offset = (spot_at spots x.count).offset; length = (spot_at spots x.count).length };
}

-- what is kept behind a reading that gave these counts, under which the entries stand at these spots: the counts of the tables that are read, and those
-- that were kept before
abbrev pub kept_read : (Table → Bool) → List ℕ → List Spot → List Table → List (Option StoredCount) → List (Option StoredCount)
kept_read read d spots [] ks = ks
kept_read read d spots (x ∷ xs) [] = []
kept_read read d spots (x ∷ xs) (k ∷ ks) = (if read x then Some (stored_at d spots x) else k) ∷ kept_read read d spots xs ks

-- so many reads are counted as it takes to get this of a lone table, where so much is kept
abbrev pub ReadsLone : Forest Resolved → Table → List ℕ → List (Option StoredCount) → Result ℕ CountFault → (before now : ℕ) → Type 0
ReadsLone tree x bytes ks outcome before now =
    (n : ℕ) × IsReadOne tree bytes x (first_kept (kept_numbers ks)) (greatest_counts tree) outcome n × (now ≡ min (before + n) most_reads)

-- the table is one of those whose counts are needed
abbrev pub is_asked_by : Needed → Table → Bool
is_asked_by needed = is_needed needed.behind needed.last needed.number

-- so many reads are counted as it takes to get this of the tables that are read, where so much is kept
abbrev pub TakesAnew : Forest Resolved → (Table → Bool) → List ℕ → List (Option StoredCount) → Result (List ℕ) CountFault → (before now : ℕ) → Type 0
TakesAnew tree read bytes ks outcome before now =
    (n : ℕ) × TakenAnew tree bytes read (tables_of tree) (kept_numbers ks) (greatest_counts tree) outcome n × (now ≡ min (before + n) most_reads)

-- so many reads are counted as a reference takes, whatever it finds
abbrev pub ReadsAnew : Forest Resolved → Ref → Bool → List ℕ → List (Option StoredCount) → (before now : ℕ) → Type 0
ReadsAnew tree r receiving bytes ks before now = (c : Result (List ℕ) CountFault) × (n : ℕ)
    × TakenAnew tree bytes (is_read tree r.node receiving) (tables_of tree) (kept_numbers ks) (greatest_counts tree) c n
    × (now ≡ min (before + n) most_reads)
