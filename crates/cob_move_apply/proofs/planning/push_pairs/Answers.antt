use Rattle.std.proofs.Common.{arith}
use Rattle.cob_move_apply.specs.Planned.{records_between}
use Rattle.cob_move_apply.proofs.InLemmas.{moves_pair}
use Rattle.cob_move_apply.proofs.PlanLemmas.{more_pair, more_pairs, pair_all, pair_more}
use Rattle.cob_move_apply.proofs.planning.push_pairs.Goals as goal

pub push_pair-requires-clause-legal : goal.push_pair-requires-clause-legal
push_pair-requires-clause-legal c =
    moves_pair (records_between c.args.both.now) c.args.group.now c.loop-first.first (omega (arith, c.loop-first-test.true, c.len-first-end.ensures, c.args.group.now.pairs.ok.0)) c.requires.moves

pub loop-first-preserved : goal.loop-first-preserved
loop-first-preserved c = record {
  gains = λ x. pair_more x (records_between c.args.both.now) c.args.given.now c.args.group.now c.loop-first.first c.args.plan.now c.loop-first.plan c.push_pair.new.plan
      (omega (arith, c.loop-first-test.true, c.len-first-end.ensures, c.args.group.now.pairs.ok.0)) (c.loop-first.invariant.gains x) (c.in_ok-push_pair.ensures.gains x);
  more = λ x. more_pair x (records_between c.args.both.now) c.args.group.now c.loop-first.first c.args.plan.now.steps.items c.loop-first.plan.steps.items c.push_pair.new.plan.steps.items
      (omega (arith, c.loop-first-test.true, c.len-first-end.ensures, c.args.group.now.pairs.ok.0)) (c.loop-first.invariant.more x) (c.in_ok-push_pair.ensures.more x);
}

pub returns-clause-more : goal.returns-clause-more
returns-clause-more c = λ x.
    more_pairs x (records_between c.args.both.now) c.args.group.now c.loop-first.first c.args.plan.now.steps.items c.loop-first.plan.steps.items
    (omega (arith, c.loop-first-test.false, c.len-first-end.ensures, c.args.group.now.pairs.ok.0)) (c.loop-first.invariant.more x)

pub returns-clause-gains : goal.returns-clause-gains
returns-clause-gains c = λ x.
    pair_all x (records_between c.args.both.now) c.args.given.now c.args.group.now c.loop-first.first c.args.plan.now c.loop-first.plan
    (omega (arith, c.loop-first-test.false, c.len-first-end.ensures, c.args.group.now.pairs.ok.0)) (c.loop-first.invariant.gains x)
