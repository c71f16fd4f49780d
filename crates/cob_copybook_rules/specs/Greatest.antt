-- What an entry with those beneath it has, where each table has its greatest number of elements.
use Rattle.std.specs.Prelude.{ℕ}
use Rattle.cob_copybook_entry.specs.Described.{PlainValue}
use Rattle.cob_copybook_tree.specs.Forests.{Tree}
use Rattle.cob_copybook_tree.specs.Nodes.{Resolved}
use Rattle.cob_copybook_tree.specs.Lengths.{greatest_number, element_length, whole_length}
use Rattle.cob_copybook_rules.specs.Values.{IsValueFor}

-- the length of all its elements
abbrev pub greatest_whole : Tree Resolved → ℕ
greatest_whole t = whole_length greatest_number t.top t.beneath

-- its element takes the value
abbrev pub TakesValue : Tree Resolved → PlainValue → Type 0
TakesValue t v = IsValueFor t.top.kind (element_length greatest_number t.top t.beneath) v
