use Rattle.std.proofs.Common.{◌∙◌}
use Rattle.cob_report_explain.proofs.conditions.condition_given.Goals as goal

pub condition_says-requires-clause-prepared : goal.condition_says-requires-clause-prepared
condition_says-requires-clause-prepared c = c.requires.walk.prepared

pub returns-in-Ok-clause-says : goal.returns-in-Ok-clause-says
returns-in-Ok-clause-says c = λ k at. rw c.in-Ok.is at (c.condition_says.ensures.says k at)

pub returns-in-Err-clause-says : goal.returns-in-Err-clause-says
returns-in-Err-clause-says c = λ k at. rw c.in-Err.is at (c.condition_says.ensures.says k at)

pub returns-in-Ok-clause-room : goal.returns-in-Ok-clause-room
returns-in-Ok-clause-room c = record {
  each = c.requires.room.each;
  tests = c.condition_says.ensures.room ∙ c.requires.room.tests;
  outputs = c.requires.room.outputs;
}

pub entry_of_stop-entry-requires-clause-room : goal.entry_of_stop-entry-requires-clause-room
entry_of_stop-entry-requires-clause-room c = record {
  each = c.requires.room.each;
  tests = c.condition_says.ensures.room ∙ c.requires.room.tests;
  outputs = c.requires.room.outputs;
}
