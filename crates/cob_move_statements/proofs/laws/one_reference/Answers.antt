use Rattle.cob_move_statements.proofs.OneLemmas.{one_reference}
use Rattle.cob_move_statements.proofs.laws.one_reference.Goals as goal

pub returns : goal.returns
returns c = one_reference
