-- Record descriptions that are one, but for the name of the record.
use Rattle.std.specs.Prelude.{◌≡◌, ℕ, List, [], Option, Some, None}
use Rattle.cob_copybook_tree.specs.declared.node.Kind.{Kind}
use Rattle.cob_copybook_tree.specs.declared.node.Kind.TheVariants.{Group, Item as ItemKind}
use Rattle.cob_copybook_tree.specs.Forests.{Forest, NoEntries, AnEntry}
use Rattle.cob_copybook_tree.specs.Nodes.{Resolved}

-- a name of which is known only that there is one
abbrev pub any_name : Option (List ℕ) → Option (List ℕ)
any_name None = None
any_name (Some name) = Some []

-- What of a record's name tells two records apart: nothing of a group's, and of an item's only whether it has one. So an item that is a record by
-- itself is FILLER in both or in neither.
abbrev pub told_name : Kind → Option (List ℕ) → Option (List ℕ)
told_name Group name = None
told_name (ItemKind i) name = any_name name

-- the record without its name
abbrev pub unnamed : Forest Resolved → Forest Resolved
unnamed NoEntries = NoEntries
unnamed (AnEntry e children more) = AnEntry (record e { name = told_name e.kind e.name }) children more

-- Two records are one, but for the record's own name: the same entries, with the same names and clauses.
abbrev pub IsSameRecord : Forest Resolved → Forest Resolved → Type 0
IsSameRecord t u = unnamed t ≡ unnamed u
