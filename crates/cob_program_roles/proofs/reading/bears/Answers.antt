use Rattle.std.proofs.Common.{◌≡◌, List, Option, Some, ℕ, subst}
use Rattle.std.specs.Bool.{Decides}
use Rattle.cob_program_roles.proofs.NamedLemmas.{root_name}
use Rattle.cob_program_roles.proofs.reading.bears.Goals as goal

pub returns : goal.returns
returns c = subst (λ (n : Option (List ℕ)). Decides c.has_name.result (n ≡ Some c.args.name.now)) (root_name c.root.result.now c.args.book.now c.root.ensures.tree) c.has_name.ensures
