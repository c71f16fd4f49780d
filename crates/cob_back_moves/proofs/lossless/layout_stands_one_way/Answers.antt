use Rattle.cob_back_moves.proofs.lossless.layout_stands_one_way.Goals as goal

pub returns : goal.returns
returns c = rw c.root.ensures.tree at c.stands_one_way.ensures
