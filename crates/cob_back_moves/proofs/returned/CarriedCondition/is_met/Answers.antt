use Rattle.cob_move_data.specs.Singles.{occurrence, plain_element, plain_single}
use Rattle.cob_back_moves.specs.Tested.{single_of}
use Rattle.cob_back_moves.proofs.ReturnedLemmas.{never_carried}
use Rattle.cob_back_moves.proofs.returned.CarriedCondition.is_met.Goals as goal

pub returns-in-None : goal.returns-in-None
returns-in-None c =
    let x = c.args.self.now in
    never_carried (single_of c.args.layouts.now (plain_single c.args.single.now)) (occurrence x.from.number x.from.subscripts.now) (plain_element x.to) x.from.item.now
    c.in-None.ensures.none
