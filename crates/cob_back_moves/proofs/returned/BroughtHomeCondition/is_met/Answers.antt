use Rattle.cob_move_data.specs.Singles.{occurrence, plain_element, plain_single}
use Rattle.cob_back_moves.specs.Brought.{singles_in}
use Rattle.cob_back_moves.specs.Tested.{single_of}
use Rattle.cob_back_moves.proofs.ReturnedLemmas.{home, never_home}
use Rattle.cob_back_moves.proofs.returned.BroughtHomeCondition.is_met.Goals as goal

pub returns-in-None : goal.returns-in-None
returns-in-None c =
    let x = c.args.self.now in
    never_home (singles_in x.there.now) (single_of c.args.layouts.now (plain_single c.args.single.now)) (occurrence x.to.number x.to.subscripts.now) x.to.item.now c.in-None.ensures.none

pub returns-in-Some : goal.returns-in-Some
returns-in-Some c =
    let x = c.args.self.now in
    home (singles_in x.there.now) (single_of c.args.layouts.now (plain_single c.args.single.now)) (occurrence x.to.number x.to.subscripts.now) (plain_element c.in-Some.away) x.to.item.now c.some_meets.result
    c.in-Some.ensures.goes c.some_meets.ensures
