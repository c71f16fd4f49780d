use Rattle.std.proofs.Common.{◌≡◌, ◌+◌, ◌-◌, ◌∙◌, ℕ, List, arith, length, refl, sym, subst, true}
use borrow.Rule.Slice.PartMut.{mid_len}
use Rattle.cob_move_steps.specs.declared.pool.MoveStep.TheVariants.{Characters}
use Rattle.cob_move_apply.specs.Surveyed.{IsSurvey}
use Rattle.cob_move_apply.proofs.PreparedLemmas.{made}
use Rattle.cob_move_apply.proofs.ReceiverLemmas.{put_is}
use Rattle.cob_move_apply.proofs.prepared.make_characters.Goals as goal

pub returns-clause-made : goal.returns-clause-made
returns-clause-made c =
    let start : ℕ = c.args.places.now.to.offset in
    let end : ℕ = start + c.args.places.now.to.length in
    let back : end - start ≡ c.args.places.now.to.length = omega arith in
    let ran = rw c.step_between-step.ensures at c.run_characters.ensures in
    made (record { places = c.args.places.now; step = Characters c.args.step }) c.args.prepared.now c.args.input.now c.args.output.now c.run_characters.new.to _ true c.requires.reads
    (mid_len start end c.args.output.now (omega (arith, c.requires.writes, c.requires.output)) ∙ back) refl ran

pub returns-clause-space : goal.returns-clause-space
returns-clause-space c =
    let start : ℕ = c.args.places.now.to.offset in
    let end : ℕ = start + c.args.places.now.to.length in
    let back : end - start ≡ c.args.places.now.to.length = omega arith in
    let size : length c.run_characters.new.to ≡ c.args.places.now.to.length = c.run_characters.auto.to ∙ (mid_len start end c.args.output.now (omega (arith, c.requires.writes, c.requires.output)) ∙ back) in
    record {
      surveyed_input = c.requires.space.surveyed_input;
      surveyed_output = subst (λ (bytes : List ℕ). IsSurvey c.args.layouts.now.output.now bytes c.change_output.new.self) (sym (put_is c.args.places.now.to c.run_characters.new.to c.args.output.now))
          (c.change_output.ensures.survey c.args.output.now c.run_characters.new.to (omega (arith, c.requires.writes, c.requires.output)) size c.requires.space.surveyed_output);
      content = c.requires.space.content;
    }

pub returns-clause-spends : goal.returns-clause-spends
returns-clause-spends c = c.change_output.ensures.spends c.args.output.now c.requires.space.surveyed_output
