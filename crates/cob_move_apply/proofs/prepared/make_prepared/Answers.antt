use Rattle.std.proofs.Common.{◌≡◌, ◌+◌, ◌-◌, ◌∙◌, ℕ, List, arith, length, refl, sym, subst}
use borrow.Rule.Slice.PartMut.{mid_len}
use Rattle.cob_move_apply.specs.Surveyed.{IsSurvey}
use Rattle.cob_move_apply.proofs.PreparedLemmas.{made, not_made, put_back}
use Rattle.cob_move_apply.proofs.ReceiverLemmas.{put_is}
use Rattle.cob_move_apply.proofs.SpentLemmas.{spent_none}
use Rattle.cob_move_apply.proofs.prepared.make_prepared.Goals as goal

pub returns-then-run-clause-made : goal.returns-then-run-clause-made
returns-then-run-clause-made c =
    let start : ℕ = c.args.places.now.to.offset in
    let end : ℕ = start + c.args.places.now.to.length in
    let back : end - start ≡ c.args.places.now.to.length = omega arith in
    made (record { places = c.args.places.now; step = c.args.step }) c.args.prepared.now c.args.input.now c.args.output.now c.run.new.to _ c.run.result c.requires.reads
    (mid_len start end c.args.output.now (omega (arith, c.requires.writes, c.requires.output)) ∙ back) c.if-run.true c.run.ensures.gets

pub returns-then-run-clause-space : goal.returns-then-run-clause-space
returns-then-run-clause-space c =
    let start : ℕ = c.args.places.now.to.offset in
    let end : ℕ = start + c.args.places.now.to.length in
    let back : end - start ≡ c.args.places.now.to.length = omega arith in
    let size : length c.run.new.to ≡ c.args.places.now.to.length = c.run.auto.to ∙ (mid_len start end c.args.output.now (omega (arith, c.requires.writes, c.requires.output)) ∙ back) in
    record {
      surveyed_input = c.requires.space.surveyed_input;
      surveyed_output = subst (λ (bytes : List ℕ). IsSurvey c.args.layouts.now.output.now bytes c.change_output.new.self) (sym (put_is c.args.places.now.to c.run.new.to c.args.output.now))
          (c.change_output.ensures.survey c.args.output.now c.run.new.to (omega (arith, c.requires.writes, c.requires.output)) size c.requires.space.surveyed_output);
      content = c.requires.space.content;
    }

pub returns-else-run-clause-made : goal.returns-else-run-clause-made
returns-else-run-clause-made c =
    let start : ℕ = c.args.places.now.to.offset in
    let end : ℕ = start + c.args.places.now.to.length in
    let back : end - start ≡ c.args.places.now.to.length = omega arith in
    not_made (record { places = c.args.places.now; step = c.args.step }) c.args.prepared.now c.args.input.now c.args.output.now c.run.new.to _ c.run.result c.requires.reads
    (mid_len start end c.args.output.now (omega (arith, c.requires.writes, c.requires.output)) ∙ back) c.if-run.false c.run.ensures.gets c.run.ensures.same

pub returns-then-run-clause-spends : goal.returns-then-run-clause-spends
returns-then-run-clause-spends c = c.change_output.ensures.spends c.args.output.now c.requires.space.surveyed_output

pub returns-else-run-clause-spends : goal.returns-else-run-clause-spends
returns-else-run-clause-spends c = spent_none c.args.layouts.now.output.now c.args.space.now.output

pub returns-else-run-clause-same : goal.returns-else-run-clause-same
returns-else-run-clause-same c = (put_back c.args.places.now.to c.args.output.now c.run.new.to (c.run.ensures.same c.if-run.false), refl)
