use Rattle.std.proofs.Common.{◌∙◌}
use Rattle.cob_move_data.specs.Singles.{PlainSingle, all_singles, plain_single}
use Rattle.cob_move_apply.specs.Some.{SomeOf}
use Rattle.cob_back_moves.specs.Brought.{moves_between}
use Rattle.cob_back_moves.specs.Tested.{IsSingle, single_of}
use Rattle.cob_back_moves.proofs.EachLemmas.{legal}
use Rattle.cob_back_moves.proofs.LeftLemmas.{next_is}
use Rattle.cob_back_moves.proofs.SomeLemmas.{ended, met, one_meant, unmet}
use Rattle.cob_back_moves.proofs.some.some_of_these_meets.Goals as goal

pub loop-single-init : goal.loop-single-init
loop-single-init g c =
    let l = c.args.layouts.now in
    let is = c.into_iter-single-iterator.ensures.into_iter_gives ∙ c.new-single-items.ensures in
    record {
      legal = legal l c.args.statements.now c.into_iter-single-iterator.result is c.requires.moves;
      some = one_meant (g.C.Condition.met c.args.condition.now) l c.args.statements.now c.into_iter-single-iterator.result is;
    }

pub is_met-requires : goal.is_met-requires
is_met-requires g c =
    let l = c.args.layouts.now in
    record {
      ready = c.requires.ready;
      sound = c.requires.sound;
      single = (next_is (λ (p : PlainSingle). IsSingle l (single_of l p)) c.loop-single.single-iterator c.next.new.self (plain_single c.in-Some.single)
          c.in-Some.ensures.steps c.loop-single.invariant.legal).0;
    }

pub returns-then-is_met : goal.returns-then-is_met
returns-then-is_met g c =
    let l = c.args.layouts.now in
    let P = g.C.Condition.met c.args.condition.now in
    met (λ (p : PlainSingle). P (single_of l p)) c.loop-single.single-iterator c.next.new.self (plain_single c.in-Some.single) c.is_met.result
    (SomeOf P (all_singles (moves_between l c.args.statements.now))) c.in-Some.ensures.steps c.if-is_met.true c.is_met.ensures c.loop-single.invariant.some

pub loop-single-preserved : goal.loop-single-preserved
loop-single-preserved g c =
    let l = c.args.layouts.now in
    let P = g.C.Condition.met c.args.condition.now in
    record {
      legal = (next_is (λ (p : PlainSingle). IsSingle l (single_of l p)) c.loop-single.single-iterator c.next.new.self (plain_single c.in-Some.single)
          c.in-Some.ensures.steps c.loop-single.invariant.legal).1;
      some = unmet (λ (p : PlainSingle). P (single_of l p)) c.loop-single.single-iterator c.next.new.self (plain_single c.in-Some.single) c.is_met.result
          (SomeOf P (all_singles (moves_between l c.args.statements.now))) c.in-Some.ensures.steps c.if-is_met.false c.is_met.ensures c.loop-single.invariant.some;
    }

pub returns : goal.returns
returns g c =
    let l = c.args.layouts.now in
    let P = g.C.Condition.met c.args.condition.now in
    ended (λ (p : PlainSingle). P (single_of l p)) c.loop-single.single-iterator (SomeOf P (all_singles (moves_between l c.args.statements.now)))
    c.in-None.ensures.steps.0 c.loop-single.invariant.some
