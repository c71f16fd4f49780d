-- What joins condition-names to the entries of a record, said as laws.
use Rattle.std.specs.Prelude.{ℕ, List}
use Rattle.cob_copybook.specs.declared.role.Role.{Role}
use Rattle.cob_copybook.specs.Books.{IsBookOf}
use Rattle.cob_copybook_conditions.specs.Names.{AreConditionNamesOf, PlainConditionName}
use Rattle.cob_copybook_tree.specs.Forests.{Forest, flat}
use Rattle.cob_copybook_tree.specs.Nodes.{Resolved}
use Rattle.cob_copybook_numbers.specs.Numbers.{AreNumberedInOrder}
use Rattle.cob_copybook_numbers.specs.Belonging.{AreNamesOfText}

-- law: the entries of a record's tree, a parent before its children, are those of its text in order, and are counted from 0 for the record
abbrev pub NumbersInOrder : Type 0
NumbersInOrder = (role : Role) (text : List ℕ) (t : Forest Resolved) (is : IsBookOf role text t) → AreNumberedInOrder 0 is.entries (flat t)

-- law: the condition-names of a record description belong to the entries of its tree that have their numbers
abbrev pub NamesOfEntries : Type 0
NamesOfEntries = (role : Role) (text : List ℕ) (t : Forest Resolved) (ns : List PlainConditionName) → IsBookOf role text t → AreConditionNamesOf text ns → AreNamesOfText text t ns
