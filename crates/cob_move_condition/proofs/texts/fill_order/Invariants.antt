use Rattle.std.proofs.Common.{◌≡◌, length, replicate}
use Rattle.cob_move_condition.specs.Compared.{text_order}
use Rattle.cob_move_condition.proofs.texts.fill_order.Given as goal

abbrev pub invariant-loop-byte : goal.invariant-loop-byte
invariant-loop-byte l = text_order l.fn.text (replicate (length l.fn.text) l.fill) ≡ text_order l.left (replicate (length l.left) l.fill)

abbrev pub decreases-loop-byte : goal.decreases-loop-byte
decreases-loop-byte l = length l.left
