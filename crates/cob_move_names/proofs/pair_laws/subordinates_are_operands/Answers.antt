use Rattle.cob_move_names.proofs.OperandLemmas.{subordinates_are_operands}
use Rattle.cob_move_names.proofs.pair_laws.subordinates_are_operands.Goals as goal

pub returns : goal.returns
returns c = subordinates_are_operands
