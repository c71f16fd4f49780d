use Rattle.std.proofs.Common.{◌≡◌, ◌<◌, length}
use Rattle.std.specs.List.{AllByRecursion}
use Rattle.cob_move_data.specs.Moves.{AreMoves, moves_by}
use Rattle.cob_move_apply.specs.ByRule.{AreGone, most_receivers}
use Rattle.cob_move_apply.specs.Surveyed.{IsWorkspace, records}
use Rattle.cob_move_apply.proofs.by_rule.apply_by_rule.Given as goal

abbrev pub invariant-loop-statement : goal.invariant-loop-statement
invariant-loop-statement l = record {
  gone : AreGone (records l.layouts) (moves_by l.layouts.reading (records l.layouts) l.statements) (moves_by l.layouts.reading (records l.layouts) l.left) l.input l.fn.output l.output l.fn.space.output
      l.space.output;
  moves : AreMoves (records l.layouts) (moves_by l.layouts.reading (records l.layouts) l.left);
  room : AllByRecursion (λ s. most_receivers s < length l.unnoted) l.left;
  output : length l.output ≡ length l.fn.output;
  space : IsWorkspace (records l.layouts) l.input l.output l.space;
}

abbrev pub decreases-loop-statement : goal.decreases-loop-statement
decreases-loop-statement l = length l.left
