use Rattle.std.proofs.Common.{◌≡◌, ◌+◌, ◌-◌, ◌∙◌, ℕ, List, arith, length, refl, sym, subst}
use borrow.Rule.Slice.PartMut.{mid_len}
use Rattle.cob_move_apply.specs.Surveyed.{IsSurvey}
use Rattle.cob_move_apply.proofs.PicturedLemmas.{pictured_made, pictured_not_made}
use Rattle.cob_move_apply.proofs.PreparedLemmas.{put_back}
use Rattle.cob_move_apply.proofs.ReceiverLemmas.{put_is}
use Rattle.cob_move_apply.proofs.SpentLemmas.{spent_none}
use Rattle.cob_move_apply.proofs.pictured.run_pictured.Goals as goal

pub returns-then-run-clause-made : goal.returns-then-run-clause-made
returns-then-run-clause-made c =
    let start : ℕ = c.args.one.places.to.offset in
    let end : ℕ = start + c.args.one.places.to.length in
    let back : end - start ≡ c.args.one.places.to.length = omega arith in
    pictured_made c.args.one c.args.pictured.now c.args.input.now c.args.output.now c.run.new.to _ c.run.result c.requires.reads
    (mid_len start end c.args.output.now (omega (arith, c.requires.writes, c.requires.output)) ∙ back) c.if-run.true c.run.ensures.gets

pub returns-then-run-clause-space : goal.returns-then-run-clause-space
returns-then-run-clause-space c =
    let start : ℕ = c.args.one.places.to.offset in
    let end : ℕ = start + c.args.one.places.to.length in
    let back : end - start ≡ c.args.one.places.to.length = omega arith in
    let size : length c.run.new.to ≡ c.args.one.places.to.length = c.run.auto.to ∙ (mid_len start end c.args.output.now (omega (arith, c.requires.writes, c.requires.output)) ∙ back) in
    record {
      surveyed_input = c.requires.space.surveyed_input;
      surveyed_output = subst (λ (bytes : List ℕ). IsSurvey c.args.layouts.now.output.now bytes c.change_output.new.self) (sym (put_is c.args.one.places.to c.run.new.to c.args.output.now))
          (c.change_output.ensures.survey c.args.output.now c.run.new.to (omega (arith, c.requires.writes, c.requires.output)) size c.requires.space.surveyed_output);
      content = c.requires.space.content;
    }

pub returns-else-run-clause-made : goal.returns-else-run-clause-made
returns-else-run-clause-made c =
    let start : ℕ = c.args.one.places.to.offset in
    let end : ℕ = start + c.args.one.places.to.length in
    let back : end - start ≡ c.args.one.places.to.length = omega arith in
    pictured_not_made c.args.one c.args.pictured.now c.args.input.now c.args.output.now c.run.new.to _ c.run.result c.requires.reads
    (mid_len start end c.args.output.now (omega (arith, c.requires.writes, c.requires.output)) ∙ back) c.if-run.false c.run.ensures.gets c.run.ensures.same

pub returns-then-run-clause-spends : goal.returns-then-run-clause-spends
returns-then-run-clause-spends c = c.change_output.ensures.spends c.args.output.now c.requires.space.surveyed_output

pub returns-else-run-clause-spends : goal.returns-else-run-clause-spends
returns-else-run-clause-spends c = spent_none c.args.layouts.now.output.now c.args.space.now.output

pub returns-else-run-clause-same : goal.returns-else-run-clause-same
returns-else-run-clause-same c = (put_back c.args.one.places.to c.args.output.now c.run.new.to (c.run.ensures.same c.if-run.false), refl)
