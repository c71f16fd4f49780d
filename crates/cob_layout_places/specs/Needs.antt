-- Which counts the place of an entry needs.
use Rattle.std.specs.Prelude.{◌≡◌, ◌⊎◌, ℕ, ◌+◌, ◌<◌, Bool, true, false, ◌==◌, ◌||◌, ◌&&◌, not, nat_le, nat_lt, if◌then◌else◌, List, [], ◌∷◌, Result, slice_set, ◌↔◌}
use Rattle.cob_copybook_tree.specs.Forests.{Forest, NoEntries, AnEntry, entries_in}
use Rattle.cob_copybook_tree.specs.Nodes.{Resolved}
use Rattle.cob_layout_places.specs.declared.varying.Table.{Table}
use Rattle.cob_layout_places.specs.Places.{is_table}
use Rattle.cob_layout_places.specs.Cover.{AreNumbered}
use Rattle.cob_layout_places.specs.Counts.{Taken}
use Rattle.cob_layout_places.specs.declared.counts.CountFault.{CountFault}

-- one of the entries has this number
abbrev pub Has : ℕ → Forest Resolved → Type 0
Has a NoEntries = ⊥
Has a (AnEntry e children more) = (e.number ≡ a) ⊎ (Has a children ⊎ Has a more)

-- the second entry stands beneath the first one
abbrev pub Holds : ℕ → ℕ → Forest Resolved → Type 0
Holds a b NoEntries = ⊥
Holds a b (AnEntry e children more) = ((e.number ≡ a) × Has b children) ⊎ (Holds a b children ⊎ Holds a b more)

-- both entries stand beneath one table
abbrev pub ShareTable : ℕ → ℕ → Forest Resolved → Type 0
ShareTable a b NoEntries = ⊥
ShareTable a b (AnEntry e children more) = ((is_table e.occurs ≡ true) × Has a children × Has b children) ⊎ (ShareTable a b children ⊎ ShareTable a b more)

-- The place of entry r needs the count of the table x that varies: it stands before r, is r, holds r, stands beneath r, or beneath a table that
-- holds r.
abbrev pub Needs : ℕ → ℕ → Forest Resolved → Type 0
Needs r x f = (x < r) ⊎ ((x ≡ r) ⊎ (Holds x r f ⊎ (Holds r x f ⊎ ShareTable r x f)))

-- No later entry outside r follows it, and the table x and its count both stand beneath r: where r receives, x takes its greatest number.
pub record IsSpared (r : ℕ) (x : Table) (f : Forest Resolved) : Type 0 where
  pub last : (y : ℕ) → Has y f → r < y → Holds r y f
  pub table : Holds r x.number f
  pub count : Holds r x.count f

-- the number behind the last entry beneath r, or with tables beneath the outermost table that holds r
abbrev pub number_behind : (tables : Bool) → ℕ → Forest Resolved → ℕ
number_behind tables r NoEntries = 0
number_behind tables r (AnEntry e children more) =
    let end = e.number + 1 + entries_in children in
    if nat_le end r then number_behind tables r more else
    if (tables && is_table e.occurs) || e.number == r then end else number_behind tables r children

-- the table's count is needed, where this is the reach of r with tables, and r receives and is the last one or not
abbrev pub is_needed : (behind : ℕ) → (last : Bool) → (r : ℕ) → Table → Bool
is_needed behind last r x = nat_lt x.number behind && not (last && (nat_lt r x.number && nat_lt r x.count))

-- those that pass the test
abbrev pub keep : {A : Type 0} → (A → Bool) → List A → List A
keep test [] = []
keep test (x ∷ xs) = if test x then x ∷ keep test xs else keep test xs

-- the count of x is read for the place of r, where r receives or not
abbrev pub is_read : Forest Resolved → ℕ → Bool → Table → Bool
is_read tree r receiving x = is_needed (number_behind true r tree) (receiving && (number_behind false r tree == entries_in tree)) r x

-- the tables whose counts are read for the place of r, where r receives or not
abbrev pub needed_tables : Forest Resolved → ℕ → Bool → List Table → List Table
needed_tables tree r receiving xs = keep (is_read tree r receiving) xs

-- the counts with each table's greatest number in its place
abbrev pub greatest : List Table → List ℕ → List ℕ
greatest [] c = c
greatest (x ∷ xs) c = greatest xs (slice_set c x.number x.most)

-- In a record the counts that are read for the place of an entry are those of the tables that it needs, but for those that it is spared where it
-- receives.
abbrev pub NeedsAreRead : Type 0
NeedsAreRead = (tree : Forest Resolved) (r : ℕ) (receiving : Bool) (x : Table) → AreNumbered 0 tree → Has r tree → Has x.number tree → Has x.count tree
    → (is_read tree r receiving x ≡ true) ↔ (Needs r x.number tree × (receiving ≡ true → IsSpared r x tree → ⊥))

-- The counts that the place of an entry needs are taken, from those that are the greatest of their tables.
abbrev pub TakesNeeded : Forest Resolved → List ℕ → ℕ → Bool → List Table → List ℕ → Result (List ℕ) CountFault → Type 0
TakesNeeded tree bytes r receiving xs c outcome = Taken tree bytes (needed_tables tree r receiving xs) (greatest xs c) outcome
