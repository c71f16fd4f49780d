-- What the entries of a record describe, by the numbers of the entries.
use Rattle.std.specs.Prelude.{List, [], ◌∷◌, ◌++◌}
use Rattle.cob_copybook_tree.specs.declared.node.Kind.{Kind}
use Rattle.cob_copybook_tree.specs.Forests.{Forest, NoEntries, AnEntry}
use Rattle.cob_copybook_tree.specs.Nodes.{Resolved}

-- what entries side by side and those beneath them describe, in the order of their numbers
abbrev pub kinds_of : Forest Resolved → List Kind
kinds_of NoEntries = []
kinds_of (AnEntry e children more) = e.kind ∷ (kinds_of children ++ kinds_of more)
