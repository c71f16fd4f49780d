use Rattle.std.proofs.Common.{◌≡◌, ◌∙◌, ℕ, List, arith, length, sym, subst}
use Rattle.cob_layout.specs.Fields.{field_of}
use Rattle.cob_move_apply.specs.Surveyed.{IsSurvey}
use Rattle.cob_move_apply.proofs.CopyLemmas.{as_long}
use Rattle.cob_move_apply.proofs.prepared.make_copy.Goals as goal

pub returns-clause-space : goal.returns-clause-space
returns-clause-space c =
    let bytes : List ℕ = field_of c.args.places.now.from c.args.input.now in
    let size : length bytes ≡ c.args.places.now.to.length = as_long c.args.places.now.from c.args.input.now c.requires.reads ∙ c.requires.same in
    record {
      surveyed_input = c.requires.space.surveyed_input;
      surveyed_output = subst (λ (now : List ℕ). IsSurvey c.args.layouts.now.output.now now c.change_output.new.self) (sym c.copy_across.ensures)
          (c.change_output.ensures.survey c.args.output.now bytes (omega (arith, c.requires.writes, c.requires.output)) size c.requires.space.surveyed_output);
      content = c.requires.space.content;
    }

pub returns-clause-spends : goal.returns-clause-spends
returns-clause-spends c = c.change_output.ensures.spends c.args.output.now c.requires.space.surveyed_output
