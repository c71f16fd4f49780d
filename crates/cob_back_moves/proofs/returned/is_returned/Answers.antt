use Rattle.cob_back_moves.specs.Brought.{singles_in}
use Rattle.cob_move_data.specs.Singles.{occurrence}
use Rattle.cob_back_moves.proofs.ReturnedLemmas.{returned}
use Rattle.cob_back_moves.proofs.returned.is_returned.Goals as goal

pub returns : goal.returns
returns c =
    returned (singles_in c.args.there.now) (singles_in c.args.back.now) (occurrence c.args.element.now.number c.args.element.now.subscripts.now) c.args.element.now.item.now c.some_meets.result c.some_meets.ensures
