use Rattle.std.proofs.Common.{◌∙◌, rules}
use Rattle.cob_move_data.specs.Singles.{PlainSingle, plain_single}
use Rattle.cob_back_moves.specs.Brought.{moves_between}
use Rattle.cob_back_moves.specs.Tested.{IsSingle, PassAll, PassesTest, single_of}
use Rattle.cob_back_moves.proofs.EachLemmas.{each_meant, legal}
use Rattle.cob_back_moves.proofs.LeftLemmas.{each_fails, each_next, each_none, next_is}
use Rattle.cob_back_moves.proofs.each.all_pass.Goals as goal

pub loop-single-init : goal.loop-single-init
loop-single-init c =
    let l = c.args.layouts.now in
    let is = c.into_iter-single-iterator.ensures.into_iter_gives ∙ c.new-single-items.ensures in
    record {
      legal = legal l c.args.statements.now c.into_iter-single-iterator.result is c.requires.moves;
      left = each_meant (PassesTest c.args.test.now) l c.args.statements.now c.into_iter-single-iterator.result is;
    }

pub passes-requires : goal.passes-requires
passes-requires c =
    let l = c.args.layouts.now in
    record {
      sound = c.requires.sound;
      single = (next_is (λ (p : PlainSingle). IsSingle l (single_of l p)) c.loop-single.single-iterator c.next.new.self (plain_single c.in-Some.single)
          c.in-Some.ensures.steps c.loop-single.invariant.legal).0;
    }

pub returns-then-not-passes : goal.returns-then-not-passes
returns-then-not-passes c =
    let l = c.args.layouts.now in
    each_fails (λ (p : PlainSingle). PassesTest c.args.test.now (single_of l p)) c.loop-single.single-iterator c.next.new.self (plain_single c.in-Some.single) c.passes.result
    (PassAll c.args.test.now (moves_between l c.args.statements.now)) c.in-Some.ensures.steps (search rules) c.passes.ensures c.loop-single.invariant.left

pub loop-single-preserved : goal.loop-single-preserved
loop-single-preserved c =
    let l = c.args.layouts.now in
    record {
      legal = (next_is (λ (p : PlainSingle). IsSingle l (single_of l p)) c.loop-single.single-iterator c.next.new.self (plain_single c.in-Some.single)
          c.in-Some.ensures.steps c.loop-single.invariant.legal).1;
      left = each_next (λ (p : PlainSingle). PassesTest c.args.test.now (single_of l p)) c.loop-single.single-iterator c.next.new.self (plain_single c.in-Some.single) c.passes.result
          (PassAll c.args.test.now (moves_between l c.args.statements.now)) c.in-Some.ensures.steps (search rules) c.passes.ensures c.loop-single.invariant.left;
    }

pub returns : goal.returns
returns c =
    let l = c.args.layouts.now in
    each_none (λ (p : PlainSingle). PassesTest c.args.test.now (single_of l p)) c.loop-single.single-iterator (PassAll c.args.test.now (moves_between l c.args.statements.now))
    c.in-None.ensures.steps.0 c.loop-single.invariant.left
