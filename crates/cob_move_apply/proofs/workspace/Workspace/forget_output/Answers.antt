use Rattle.std.proofs.Common.{◌∙◌}
use Rattle.cob_move_apply.proofs.workspace.Workspace.forget_output.Goals as goal

pub returns-clause-space : goal.returns-clause-space
returns-clause-space c r input output room kept = record {
  surveyed_input = record { kept = kept; room = room.input };
  surveyed_output = record { kept = c.forget.ensures.keeps r.output output; room = c.forget.ensures.room ∙ room.output };
  content = room.content;
}
