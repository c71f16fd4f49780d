use Rattle.std.proofs.Common.{◌≡◌, ◌+◌, length}
use Rattle.cob_move_condition.specs.Compared.{text_order}
use Rattle.cob_move_condition.proofs.texts.text_order.Given as goal

abbrev pub invariant-loop-left : goal.invariant-loop-left
invariant-loop-left l = text_order l.fn.first l.fn.second ≡ text_order l.left l.right

abbrev pub decreases-loop-left : goal.decreases-loop-left
decreases-loop-left l = length l.left + length l.right
