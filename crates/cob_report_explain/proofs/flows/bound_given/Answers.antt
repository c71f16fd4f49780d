use Rattle.std.proofs.Common.{◌∙◌}
use Rattle.cob_report_explain.proofs.flows.bound_given.Goals as goal

pub bound_number-requires-clause-prepared : goal.bound_number-requires-clause-prepared
bound_number-requires-clause-prepared c = c.requires.walk.prepared

pub returns-in-Ok-clause-says : goal.returns-in-Ok-clause-says
returns-in-Ok-clause-says c = λ b at. rw c.in-Ok.is at (c.bound_number.ensures.says b at)

pub returns-in-Err-clause-says : goal.returns-in-Err-clause-says
returns-in-Err-clause-says c = λ b at. rw c.in-Err.is at (c.bound_number.ensures.says b at)

pub returns-in-Ok-clause-room : goal.returns-in-Ok-clause-room
returns-in-Ok-clause-room c = record {
  each = c.requires.room.each;
  tests = c.bound_number.ensures.room ∙ c.requires.room.tests;
  outputs = c.requires.room.outputs;
}

pub returns-in-Err-clause-room : goal.returns-in-Err-clause-room
returns-in-Err-clause-room c = record {
  each = c.requires.room.each;
  tests = c.bound_number.ensures.room ∙ c.requires.room.tests;
  outputs = c.requires.room.outputs;
}
