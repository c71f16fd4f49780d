use Rattle.cob_move_names.proofs.ValuedLemmas.{items_are_operands}
use Rattle.cob_move_names.proofs.laws.items_are_operands.Goals as goal

pub returns : goal.returns
returns c = items_are_operands c.records_are_sound.ensures
