use Rattle.std.proofs.Common.{◌≡◌, length, map}
use Rattle.cob_move_data.specs.Moves.{AreMoves, numbered_move_by, statement_moves_by}
use Rattle.cob_move_data.specs.declared.operands.StatementMoves.TheVariants.{Pairs}
use Rattle.cob_move_apply.specs.ByRule.{AreGone}
use Rattle.cob_move_apply.specs.Surveyed.{IsWorkspace, records}
use Rattle.cob_move_apply.proofs.by_rule.apply_pairs.Given as goal

abbrev pub invariant-loop-pair : goal.invariant-loop-pair
invariant-loop-pair l = record {
  gone : AreGone (records l.layouts) (statement_moves_by l.layouts.reading (records l.layouts) (Pairs l.group)) (map (numbered_move_by l.layouts.reading (records l.layouts) l.group) l.left) l.input
      l.fn.output l.output l.fn.space.output l.space.output;
  moves : AreMoves (records l.layouts) (map (numbered_move_by l.layouts.reading (records l.layouts) l.group) l.left);
  output : length l.output ≡ length l.fn.output;
  space : IsWorkspace (records l.layouts) l.input l.output l.space;
}

abbrev pub decreases-loop-pair : goal.decreases-loop-pair
decreases-loop-pair l = length l.left
