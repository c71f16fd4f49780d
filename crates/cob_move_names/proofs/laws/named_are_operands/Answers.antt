use Rattle.cob_move_names.proofs.ReferenceLemmas.{are_operands}
use Rattle.cob_move_names.proofs.laws.named_are_operands.Goals as goal

pub returns : goal.returns
returns c = are_operands c.records_are_sound.ensures
