-- How often entries occur under counts, and what holds of the entries of every record.
use Rattle.std.specs.Prelude.{ℕ, ◌+◌, ◌<◌, ◌≤◌, List, Option, Some, None, slice_index, min}
use Rattle.cob_limits.specs.Limits.{longest_record}
use Rattle.cob_copybook_tree.specs.declared.node.ResolvedOccurs.{ResolvedOccurs}
use Rattle.cob_copybook_tree.specs.declared.node.ResolvedOccurs.TheVariants.{Once, Fixed, Varying}
use Rattle.cob_copybook_tree.specs.Forests.{Forest, NoEntries, AnEntry}
use Rattle.cob_copybook_tree.specs.Nodes.{Resolved, MayHold}
use Rattle.cob_copybook_tree.specs.Lengths.{greatest_number, sum_of, whole_length}

-- an entry occurs once, a number of times, or as often as its count says, and no more often than its greatest number
abbrev pub times_by : ℕ → ResolvedOccurs → ℕ
times_by count Once = 1
times_by count (Fixed n) = n
times_by count (Varying least most number) = min count most

-- how often an entry occurs under counts, which stand by the numbers of their tables
abbrev pub times : List ℕ → Resolved → ℕ
times counts e = times_by (slice_index counts e.number) e.occurs

-- each entry occurs at least once under greatest counts
abbrev pub MayOccur : Forest Resolved → Type 0
MayOccur NoEntries = Unit {0}
MayOccur (AnEntry e children more) = (0 < greatest_number e) × MayOccur children × MayOccur more

-- the length of the area behind an entry of this length, which begins an area or redefines one
abbrev pub area_by : Option (List ℕ) → ℕ → ℕ → ℕ
area_by None area n = n
area_by (Some name) area n = area

-- no redefinition is longer than its area, where the area before these entries has this length
abbrev pub AreInAreas : ℕ → Forest Resolved → Type 0
AreInAreas area NoEntries = Unit {0}
AreInAreas area (AnEntry e children more) =
    let after = area_by e.redefines area (whole_length greatest_number e children) in
    (whole_length greatest_number e children ≤ after) × AreInAreas 0 children × AreInAreas after more

-- groups alone have entries beneath them
abbrev pub AreLeaves : Forest Resolved → Type 0
AreLeaves NoEntries = Unit {0}
AreLeaves (AnEntry e children more) = MayHold e.kind children × AreLeaves children × AreLeaves more

-- What holds of the entries of every record: each may occur, groups alone have entries beneath them, no redefinition is longer than its
-- area, and the entries that begin there end with all their elements within 32,752 bytes.
pub record FitsInRecord (start : ℕ) (tree : Forest Resolved) : Type 0 where
  pub possible : MayOccur tree
  pub leaves : AreLeaves tree
  pub areas : AreInAreas 0 tree
  pub small : start + sum_of greatest_number tree ≤ longest_record

-- so it is of one of them with those beneath it, whether or not it redefines: it ends with all its elements within 32,752 bytes
pub record EntryFits (start : ℕ) (entry : Resolved) (children : Forest Resolved) : Type 0 where
  pub possible : MayOccur (AnEntry entry children NoEntries)
  pub leaves : AreLeaves (AnEntry entry children NoEntries)
  pub areas : AreInAreas 0 children
  pub small : start + whole_length greatest_number entry children ≤ longest_record

-- no entry occurs more often than its greatest number
abbrev pub AreWithin : (Resolved → ℕ) → Forest Resolved → Type 0
AreWithin c NoEntries = Unit {0}
AreWithin c (AnEntry e children more) = (c e ≤ greatest_number e) × AreWithin c children × AreWithin c more
