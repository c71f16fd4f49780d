use Rattle.std.proofs.Common.{◌∙◌, List, Option, subst, sym}
use Rattle.cob_layout.specs.declared.counts.StoredCount.{StoredCount}
use Rattle.cob_layout.specs.Kept.{AreKeptOf}
use Rattle.cob_report_explain.proofs.conditions.is_stop_of.Goals as goal

pub place-requires-clause-room : goal.place-requires-clause-room
place-requires-clause-room c = c.forget_output.ensures.room ∙ c.forget_input.ensures.room ∙ c.requires.room.tests

pub place-requires-clause-kept_input : goal.place-requires-clause-kept_input
place-requires-clause-kept_input c =
    subst (λ (ks : List (Option StoredCount)). AreKeptOf c.args.walk.now.layouts.input.now c.args.walk.now.input.now ks) (sym c.forget_output.ensures.input)
    (c.forget_input.ensures.keeps c.args.walk.now.layouts.input.now c.args.walk.now.input.now)

pub place-requires-clause-kept_output : goal.place-requires-clause-kept_output
place-requires-clause-kept_output c = c.forget_output.ensures.keeps c.args.walk.now.layouts.output.now c.args.output.now

pub returns-in-Ok : goal.returns-in-Ok
returns-in-Ok c = record {
  each = c.requires.room.each;
  tests = c.place.ensures.room ∙ c.forget_output.ensures.room ∙ c.forget_input.ensures.room ∙ c.requires.room.tests;
  outputs = c.requires.room.outputs;
}

pub returns-in-Err : goal.returns-in-Err
returns-in-Err c = record {
  each = c.requires.room.each;
  tests = c.place.ensures.room ∙ c.forget_output.ensures.room ∙ c.forget_input.ensures.room ∙ c.requires.room.tests;
  outputs = c.requires.room.outputs;
}
