-- Lengths that are no greater than that of the longest record.
use Rattle.std.specs.Prelude.{◌≤◌, List, [], ◌∷◌}
use Rattle.cob_copybook_tree.specs.Forests.{Tree}
use Rattle.cob_copybook_tree.specs.Nodes.{Resolved}
use Rattle.cob_copybook_tree.specs.Lengths.{greatest_number, whole_length}
use Rattle.cob_limits.specs.Limits.{longest_record}

-- the first of the entries that share an area isn't longer than a record may be
abbrev pub IsShortArea : List (Tree Resolved) → Type 0
IsShortArea [] = Unit {0}
IsShortArea (first ∷ ts) = whole_length greatest_number first.top first.beneath ≤ longest_record
