use Rattle.cob_move.proofs.BoundLemmas.{bound_item, bound_must, group_none}
use Rattle.cob_move.proofs.deeds.is_bound_item.Goals as goal

pub returns-in-Item-clause-yes : goal.returns-in-Item-clause-yes
returns-in-Item-clause-yes c = λ is. bound_item c.args.kind.now c.in-Item.item c.in-Item.is (c.is_whole.ensures.yes is)

pub returns-in-Item-clause-must : goal.returns-in-Item-clause-must
returns-in-Item-clause-must c = λ i is. c.is_whole.ensures.must (bound_must c.args.kind.now c.in-Item.item c.in-Item.is i is)

pub returns-in-Group-clause-must : goal.returns-in-Group-clause-must
returns-in-Group-clause-must c = λ i is. absurd (group_none c.args.kind.now c.in-Group.is i is)
