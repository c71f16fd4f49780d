use Rattle.std.proofs.Common.{◌≡◌, ◌≤◌, ℕ, List, length}
use Rattle.cob_move_data.specs.declared.operands.StatementMoves.{StatementMoves}
use Rattle.cob_move_data.specs.Moves.{Move}
use Rattle.cob_move_apply.specs.Going.{Left, SpentSteps}
use Rattle.cob_move_apply.specs.Steps.{support_of}
use Rattle.cob_move_apply.specs.Surveyed.{IsWorkspace, records}
use Rattle.cob_move_apply.specs.declared.survey.Survey.{Survey}
use Rattle.cob_move_apply.proofs.application.run_ready.Given as goal

abbrev pub invariant-loop-output : goal.invariant-loop-output
invariant-loop-output l = record {
  left : (given : List StatementMoves) (ms : List Move) (before : List ℕ)
      → Left l.layouts.reading (records l.layouts) given ms l.fn.steps (support_of l.plan) 0 l.input before l.fn.output
      → Left l.layouts.reading (records l.layouts) given ms l.rest (support_of l.plan) 0 l.input before l.output;
  output : length l.output ≡ length l.fn.output;
  space : IsWorkspace (records l.layouts) l.input l.output l.space;
  spends : (given : List StatementMoves) (ms : List Move) (before : List ℕ) (first : Survey)
      → SpentSteps l.layouts.reading (records l.layouts) given ms l.fn.steps (support_of l.plan) 0 l.input before l.fn.output first l.fn.space.output
      → SpentSteps l.layouts.reading (records l.layouts) given ms l.rest (support_of l.plan) 0 l.input before l.output first l.space.output;
  fewer : length l.rest ≤ length l.fn.steps;
}

abbrev pub decreases-loop-output : goal.decreases-loop-output
decreases-loop-output l = length l.rest
