use Rattle.cob_program_roles.proofs.NamedLemmas.{name_alone_changes}
use Rattle.cob_program_roles.proofs.laws.name_alone_changes.Goals as goal

pub returns : goal.returns
returns c = name_alone_changes
