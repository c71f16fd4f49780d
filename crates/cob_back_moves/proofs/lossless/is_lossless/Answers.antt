use Rattle.cob_back_moves.proofs.LossLemmas.{decided}
use Rattle.cob_back_moves.proofs.lossless.is_lossless.Goals as goal

pub returns : goal.returns
returns c = decided c.args.there.now c.args.back.now c.first_loss.result c.is_none.result c.is_none.ensures c.first_loss.ensures.loss c.first_loss.ensures.none
