use Rattle.std.proofs.Common.{◌∙◌}
use Rattle.cob_program_roles.proofs.NamedLemmas.{root_nameable}
use Rattle.cob_program_roles.proofs.reading.may_be_named.Goals as goal

pub returns : goal.returns
returns c = c.is_nameable.ensures ∙ root_nameable c.root.result.now c.args.book.now c.root.ensures.tree
