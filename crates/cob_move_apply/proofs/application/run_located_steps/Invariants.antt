use Rattle.std.proofs.Common.{◌≡◌, ◌≤◌, ℕ, List, length}
use Rattle.cob_move_data.specs.declared.operands.StatementMoves.{StatementMoves}
use Rattle.cob_move_data.specs.Moves.{Move}
use Rattle.cob_move_apply.specs.Going.{Left, SpentSteps}
use Rattle.cob_move_apply.specs.Steps.{support_of}
use Rattle.cob_move_apply.specs.Surveyed.{IsWorkspace, records}
use Rattle.cob_move_apply.specs.declared.survey.Survey.{Survey}
use Rattle.cob_move_apply.proofs.application.run_located_steps.Given as goal

abbrev pub invariant-loop-step : goal.invariant-loop-step
invariant-loop-step g l = record {
  left : (given : List StatementMoves) (ms : List Move) (before : List ℕ)
      → Left l.layouts.reading (records l.layouts) given ms l.fn.steps (support_of l.plan) 0 l.input before l.fn.output
      → Left l.layouts.reading (records l.layouts) given ms l.left (support_of l.plan) 0 l.input before l.output;
  output : length l.output ≡ length l.fn.output;
  space : IsWorkspace (records l.layouts) l.input l.output l.space;
  spends : (given : List StatementMoves) (ms : List Move) (before : List ℕ) (first : Survey)
      → SpentSteps l.layouts.reading (records l.layouts) given ms l.fn.steps (support_of l.plan) 0 l.input before l.fn.output first l.fn.space.output
      → SpentSteps l.layouts.reading (records l.layouts) given ms l.left (support_of l.plan) 0 l.input before l.output first l.space.output;
  fewer : length l.left ≤ length l.fn.steps;
}

abbrev pub decreases-loop-step : goal.decreases-loop-step
decreases-loop-step g l = length l.left
