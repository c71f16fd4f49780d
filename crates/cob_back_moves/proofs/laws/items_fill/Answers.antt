use Rattle.cob_back_moves.proofs.FillLaw.{items_fill}
use Rattle.cob_back_moves.proofs.laws.items_fill.Goals as goal

pub returns : goal.returns
returns c = items_fill
