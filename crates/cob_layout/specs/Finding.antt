-- Where references stand in a storage, by those of its counts that they need.
use Rattle.std.specs.Prelude.{◌≡◌, ◌⊎◌, ℕ, ◌+◌, ◌<◌, ◌≤◌, Bool, true, false, ◌==◌, ◌&&◌, nat_le, List, [], ◌∷◌, Option, Some, None, Ok, Err, Result, if◌then◌else◌, length, slice_index, take}
use Rattle.cob_copybook_tree.specs.Forests.{Forest, entries_in}
use Rattle.cob_copybook_tree.specs.Nodes.{Resolved}
use Rattle.cob_layout_places.specs.declared.places.Found.{Found}
use Rattle.cob_layout_places.specs.declared.reference.Ref.{Ref}
use Rattle.cob_layout_places.specs.declared.varying.Table.{Table}
use Rattle.cob_layout_places.specs.Counts.{tables_of}
use Rattle.cob_copybook_tree.specs.Lengths.{sum_of}
use Rattle.cob_layout_places.specs.Lengths.{times}
use Rattle.cob_layout_places.specs.Needs.{is_needed, is_read, number_behind}
use Rattle.cob_layout_places.specs.Places.{place_of}
use Rattle.cob_layout_places.specs.Spots.{spots_of}
use Rattle.cob_layout.specs.declared.counts.StoredCount.{StoredCount}
use Rattle.cob_layout.specs.declared.fields.Place.{Place}
use Rattle.cob_layout.specs.declared.finding.FindFault.{FindFault}
use Rattle.cob_layout.specs.declared.finding.FindFault.TheVariants.{Count, Subscript}
use Rattle.cob_layout.specs.declared.shifts.Growth.{Growth}
use Rattle.cob_layout.specs.Counting.{greatest_counts, NeededOf}
use Rattle.cob_layout.specs.Kept.{AreKeptOf, kept_after, kept_numbers, TakenAnew}
use Rattle.cob_layout.specs.Placed.{element_under, placed_under}
use Rattle.cob_layout.specs.Shifts.{growths_from, sums_by}

-- A reference stands there in a storage, receiving or not: where its element stands under the counts that it needs there, or would begin where it isn't
-- one of those that there are; and nowhere where the first of these counts that isn't valid has this fault.
abbrev pub IsFound : Forest Resolved → Ref → Bool → List ℕ → Result Place FindFault → Type 0
IsFound tree r receiving bytes (Ok p) =
    (counts : List ℕ) × NeededOf tree r.node receiving bytes (Ok counts) × (placed_under counts tree r ≡ Some (Ok p))
IsFound tree r receiving bytes (Err (Subscript f)) =
    (counts : List ℕ) × NeededOf tree r.node receiving bytes (Ok counts) × (placed_under counts tree r ≡ Some (Err f))
IsFound tree r receiving bytes (Err (Count f)) = NeededOf tree r.node receiving bytes (Err f)

-- this is so where the counts that a reference needs are valid
abbrev pub OnCounts : Result Place FindFault → Type 0 → Type 0
OnCounts (Ok p) A = A
OnCounts (Err (Subscript f)) A = A
OnCounts (Err (Count f)) A = Unit {0}

-- and this where one of them isn't
abbrev pub OnCountFault : Result Place FindFault → Type 0 → Type 0
OnCountFault (Ok p) A = Unit {0}
OnCountFault (Err (Subscript f)) A = Unit {0}
OnCountFault (Err (Count f)) A = A

-- it ends within the record's length under the counts that a reference needs
abbrev pub EndsInLength : Forest Resolved → Ref → Bool → List ℕ → Place → Type 0
EndsInLength tree r receiving bytes p =
    (c : List ℕ) × NeededOf tree r.node receiving bytes (Ok c) × (p.offset + p.length ≤ sum_of (times c) tree)

-- the counts that a reference needs are kept, and those that were kept before
abbrev pub KeepsNeeded : Forest Resolved → Ref → Bool → List ℕ → (before now : List (Option StoredCount)) → Type 0
KeepsNeeded tree r receiving bytes before now = (c : List ℕ) × NeededOf tree r.node receiving bytes (Ok c)
    × (kept_numbers now ≡ kept_after (is_read tree r.node receiving) c (tables_of tree) (kept_numbers before))

-- these counts put each element of an entry where those do
abbrev pub PlacesAlike : Forest Resolved → ℕ → List ℕ → List ℕ → Type 0
PlacesAlike tree r counts those =
    (subscripts : List ℕ) → place_of (times counts) r tree 0 0 subscripts ≡ place_of (times those) r tree 0 0 subscripts

-- these counts stand for those that a reference needs, and so many are kept then
abbrev pub HasNeeded : Forest Resolved → Ref → Bool → List ℕ → List ℕ → (before now : List (Option StoredCount)) → Type 0
HasNeeded tree r receiving bytes counts before now = (c : List ℕ) × NeededOf tree r.node receiving bytes (Ok c)
    × PlacesAlike tree r.node counts c
    × (kept_numbers now ≡ kept_after (is_read tree r.node receiving) c (tables_of tree) (kept_numbers before))

-- a reference has this element under the counts that it needs, and so many are kept then
abbrev pub FindsNeeded : Forest Resolved → Ref → Bool → List ℕ → (before now : List (Option StoredCount)) → Found → Type 0
FindsNeeded tree r receiving bytes before now found = (c : List ℕ) × NeededOf tree r.node receiving bytes (Ok c)
    × (element_under c tree r ≡ Some found)
    × (kept_numbers now ≡ kept_after (is_read tree r.node receiving) c (tables_of tree) (kept_numbers before))

-- A reference has this element where all counts that it needs are kept: it stands so under them, none of them is read anew, and what is kept stays.
abbrev pub IsFoundKept : Forest Resolved → Ref → Bool → (bytes : List ℕ) → List (Option StoredCount) → Found → Type 0
IsFoundKept tree r receiving bytes ks found =
    (counts : List ℕ) × NeededOf tree r.node receiving bytes (Ok counts) × (element_under counts tree r ≡ Some found)
    × (kept_numbers ks ≡ kept_after (is_read tree r.node receiving) counts (tables_of tree) (kept_numbers ks))
    × TakenAnew tree bytes (is_read tree r.node receiving) (tables_of tree) (kept_numbers ks) (greatest_counts tree) (Ok counts) 0

-- the count that is kept is this one
abbrev pub is_kept_as : Option StoredCount → ℕ → Bool
is_kept_as None n = false
is_kept_as (Some k) n = k.number == n

-- A count is what a reference asks of a table, where so much is kept of it: the kept count, where it reads the table's count; the greatest one, where it
-- is spared it; and any for a table from its reach on.
abbrev pub is_met : (behind : ℕ) → (last : Bool) → (r : ℕ) → Table → Option StoredCount → ℕ → Bool
is_met behind last r x kept count =
    if nat_le behind x.number then true else
    if is_needed behind last r x then is_kept_as kept count else count == x.most

-- so it is of all these tables
abbrev pub are_met : (behind : ℕ) → (last : Bool) → (r : ℕ) → List ℕ → List Table → List (Option StoredCount) → Bool
are_met behind last r counts [] ks = true
are_met behind last r counts (x ∷ xs) [] = false
are_met behind last r counts (x ∷ xs) (k ∷ ks) =
    is_met behind last r x k (slice_index counts x.number) && are_met behind last r counts xs ks

-- these counts are what a reference asks of the tables of a record, where so much is kept of them
abbrev pub are_all_met : Forest Resolved → ℕ → Bool → List ℕ → List (Option StoredCount) → Bool
are_all_met tree r receiving counts ks =
    are_met (number_behind true r tree) (receiving && (number_behind false r tree == entries_in tree)) r counts (tables_of tree) ks

-- A reference needs all tables below its reach: it isn't the last one that receives, or no entry stands beneath it.
abbrev pub SparesNone : (behind : ℕ) → (last : Bool) → (r : ℕ) → Type 0
SparesNone behind last r = (last ≡ false) ⊎ (behind ≤ r + 1)

-- Counts and sums reach up to this number, where it isn't 0: the counts are what every reference asks that needs just the tables below it, where so much is
-- kept of these tables, and the sums are those behind the tables that grow so.
abbrev pub ReachTo : (behind : ℕ) → (counts sums : List ℕ) → List Table → List Growth → List (Option StoredCount) → Type 0
ReachTo behind counts sums tables growths ks =
    0 < behind
    → (are_met behind false 0 counts tables ks ≡ true) × (take (length growths + 1) sums ≡ sums_by counts growths (0 ∷ []) 0)

-- so they do in a record
abbrev pub ReachIn : Forest Resolved → (behind : ℕ) → (counts sums : List ℕ) → List (Option StoredCount) → Type 0
ReachIn tree behind counts sums ks =
    ReachTo behind counts sums (tables_of tree) (growths_from (spots_of (times []) tree 0 0) 0 tree) ks

-- where the counts that a reference needs are among those that these reach, it has this element, whatever the storage of which so much is kept
abbrev pub FindsWithin : Forest Resolved → Ref → Bool → (reach : ℕ) → (counts sums : List ℕ) → Found → Type 0
FindsWithin tree r receiving reach counts sums found = (bytes : List ℕ) (kept : List (Option StoredCount))
    → length kept ≡ length (tables_of tree) → AreKeptOf tree bytes kept → ReachIn tree reach counts sums kept
    → IsFoundKept tree r receiving bytes kept found
