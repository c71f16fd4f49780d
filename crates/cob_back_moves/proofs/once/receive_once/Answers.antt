use Rattle.std.proofs.Common.{◌∙◌, rules}
use Rattle.cob_move_data.specs.Singles.{PlainSingle, plain_single}
use Rattle.cob_back_moves.specs.Singles.{ReceiveOnce}
use Rattle.cob_back_moves.specs.Received.{ReceivesOnce, singles_by}
use Rattle.cob_back_moves.proofs.LeftLemmas.{each_fails, each_next, each_none}
use Rattle.cob_back_moves.proofs.OnceLemmas.{each_once}
use Rattle.cob_back_moves.proofs.once.receive_once.Goals as goal

pub loop-single-init : goal.loop-single-init
loop-single-init c x r = each_once x r c.args.statements.now c.into_iter-single-iterator.result (c.into_iter-single-iterator.ensures.into_iter_gives ∙ c.new-single-items.ensures)

pub returns-then-not-receives_once : goal.returns-then-not-receives_once
returns-then-not-receives_once c x r =
    let all = singles_by x r c.args.statements.now in
    each_fails (λ (p : PlainSingle). ReceivesOnce p.receiver all) c.loop-single.single-iterator c.next.new.self (plain_single c.in-Some.single) c.receives_once.result (ReceiveOnce all)
    c.in-Some.ensures.steps (search rules) (c.receives_once.ensures x r) (c.loop-single.invariant x r)

pub loop-single-preserved : goal.loop-single-preserved
loop-single-preserved c x r =
    let all = singles_by x r c.args.statements.now in
    each_next (λ (p : PlainSingle). ReceivesOnce p.receiver all) c.loop-single.single-iterator c.next.new.self (plain_single c.in-Some.single) c.receives_once.result (ReceiveOnce all)
    c.in-Some.ensures.steps (search rules) (c.receives_once.ensures x r) (c.loop-single.invariant x r)

pub returns : goal.returns
returns c x r =
    let all = singles_by x r c.args.statements.now in
    each_none (λ (p : PlainSingle). ReceivesOnce p.receiver all) c.loop-single.single-iterator (ReceiveOnce all) c.in-None.ensures.steps.0 (c.loop-single.invariant x r)
