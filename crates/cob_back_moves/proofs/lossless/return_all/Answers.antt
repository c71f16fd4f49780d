use Rattle.cob_back_moves.proofs.LossLemmas.{returned}
use Rattle.cob_back_moves.proofs.lossless.return_all.Goals as goal

pub returns : goal.returns
returns c = returned c.args.there.now c.args.back.now c.lost_item.result c.is_none.result c.is_none.ensures c.lost_item.ensures.fine c.lost_item.ensures.lost
