use Rattle.std.proofs.Common.{rules}
use Rattle.cob_move_data.specs.Singles.{occurrence, plain_element, plain_single}
use Rattle.cob_back_moves.specs.Tested.{single_of}
use Rattle.cob_back_moves.proofs.ReturnedLemmas.{carried, not_carried}
use Rattle.cob_back_moves.proofs.returned.is_carried_from.Goals as goal

pub returns-then-not-is_at : goal.returns-then-not-is_at
returns-then-not-is_at c =
    let x = c.args.carried.now in
    not_carried (single_of c.args.layouts.now (plain_single c.args.single.now)) (plain_element c.args.from.now) (occurrence x.from.number x.from.subscripts.now) (plain_element x.to) x.from.item.now
    c.is_at.result (search rules) c.is_at.ensures c.requires.goes

pub returns : goal.returns
returns c =
    let x = c.args.carried.now in
    carried (single_of c.args.layouts.now (plain_single c.args.single.now)) (plain_element c.args.from.now) (occurrence x.from.number x.from.subscripts.now) (plain_element x.to) x.from.item.now
    c.loses_nothing_at.result (c.is_at.ensures.0 (search rules)) c.requires.goes c.loses_nothing_at.ensures
