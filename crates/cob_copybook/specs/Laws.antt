-- What follows from the definitions, said as laws.
use Rattle.std.specs.Prelude.{ℕ, List}
use Rattle.cob_copybook_entry.specs.declared.fault.BookRule.{BookRule}
use Rattle.cob_copybook_tree.specs.Forests.{Forest}
use Rattle.cob_copybook_tree.specs.Nodes.{Resolved}
use Rattle.cob_copybook.specs.declared.role.Role.{Role}
use Rattle.cob_copybook.specs.Books.{IsBookOf, IsBookRefusal, IsMemory}

-- law: a text that is a record description breaks no rule of copybooks, on no line; it is refused for want of memory alone
abbrev pub BookBreaksNoRule : Type 0
BookBreaksNoRule = (role : Role) (text : List ℕ) (t : Forest Resolved) (r : BookRule) (line : ℕ) → IsBookOf role text t → IsBookRefusal role r line text → IsMemory r
