use Rattle.cob_move.proofs.ParagraphLemmas.{done_is_applied}
use Rattle.cob_move.proofs.laws.done_is_applied.Goals as goal

pub returns : goal.returns
returns c = done_is_applied c.straight_is_applied.ensures
