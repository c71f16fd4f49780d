use Rattle.std.proofs.Common.{◌≡◌, ◌+◌, ◌-◌, ◌∙◌, ℕ, List, arith, length, sym, subst}
use borrow.Rule.Slice.PartMut.{mid_len}
use Rattle.cob_move_steps.specs.Copies.{IsConstantStep}
use Rattle.cob_move_steps.specs.declared.constant_step.ConstantStep.{ConstantStep}
use Rattle.cob_move_steps.proofs.PoolLemmas.{read_at}
use Rattle.cob_move_apply.specs.Surveyed.{IsSurvey}
use Rattle.cob_move_apply.proofs.ReceiverLemmas.{put_is}
use Rattle.cob_move_apply.proofs.constant.make_constant.Goals as goal

pub run-requires : goal.run-requires
run-requires c =
    let start : ℕ = c.args.one.to.offset in
    let end : ℕ = start + c.args.one.to.length in
    let back : end - start ≡ c.args.one.to.length = omega arith in
    let (constant, to, at) = c.requires.step in
    let is = read_at ConstantStep (λ (step : ConstantStep). IsConstantStep constant to c.args.one.to.length step) c.args.plan.now.constants.items c.args.one.number c.index.result.now at c.index.ensures in
    omega (arith, is.count, c.index.result.now.bytes.ok.0, mid_len start end c.args.output.now (omega (arith, c.requires.writes, c.requires.output)), back)

pub returns-clause-made : goal.returns-clause-made
returns-clause-made c = λ constant to at.
    let is = read_at ConstantStep (λ (step : ConstantStep). IsConstantStep constant to c.args.one.to.length step) c.args.plan.now.constants.items c.args.one.number c.index.result.now at c.index.ensures in
    (c.run.new.to, c.run.ensures constant to c.args.one.to.length is, put_is c.args.one.to c.run.new.to c.args.output.now)

pub returns-clause-space : goal.returns-clause-space
returns-clause-space c =
    let start : ℕ = c.args.one.to.offset in
    let end : ℕ = start + c.args.one.to.length in
    let back : end - start ≡ c.args.one.to.length = omega arith in
    let size : length c.run.new.to ≡ c.args.one.to.length = c.run.auto.to ∙ (mid_len start end c.args.output.now (omega (arith, c.requires.writes, c.requires.output)) ∙ back) in
    record {
      surveyed_input = c.requires.space.surveyed_input;
      surveyed_output = subst (λ (bytes : List ℕ). IsSurvey c.args.layouts.now.output.now bytes c.change_output.new.self) (sym (put_is c.args.one.to c.run.new.to c.args.output.now))
          (c.change_output.ensures.survey c.args.output.now c.run.new.to (omega (arith, c.requires.writes, c.requires.output)) size c.requires.space.surveyed_output);
      content = c.requires.space.content;
    }

pub returns-clause-spends : goal.returns-clause-spends
returns-clause-spends c = c.change_output.ensures.spends c.args.output.now c.requires.space.surveyed_output
