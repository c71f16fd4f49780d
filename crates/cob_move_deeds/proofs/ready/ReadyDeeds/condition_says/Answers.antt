use Rattle.std.proofs.Common.{◌∙◌, List, Option, subst, sym}
use Rattle.cob_layout.specs.declared.counts.StoredCount.{StoredCount}
use Rattle.cob_layout.specs.Kept.{AreKeptOf}
use Rattle.cob_move_deeds.proofs.ready.ReadyDeeds.condition_says.Goals as goal

pub condition_says-requires-clause-kept : goal.condition_says-requires-clause-kept
condition_says-requires-clause-kept c = record {
  room = c.forget_output.ensures.room ∙ c.forget_input.ensures.room ∙ c.requires.room;
  of_input = subst (λ (ks : List (Option StoredCount)). AreKeptOf c.args.input_layout.now c.args.input.now ks) (sym c.forget_output.ensures.input)
      (c.forget_input.ensures.keeps c.args.input_layout.now c.args.input.now);
  of_output = c.forget_output.ensures.keeps c.args.output_layout.now c.args.output.now;
}

pub returns-clause-room : goal.returns-clause-room
returns-clause-room c = c.condition_says.ensures.kept.room ∙ sym c.requires.room
