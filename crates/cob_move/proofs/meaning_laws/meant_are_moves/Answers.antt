use Rattle.cob_move.proofs.MoveLemmas.{meant_are_moves}
use Rattle.cob_move.proofs.meaning_laws.meant_are_moves.Goals as goal

pub returns : goal.returns
returns c = meant_are_moves c.named_are_operands.ensures c.subordinates_are_operands.ensures c.records_are_sound.ensures
