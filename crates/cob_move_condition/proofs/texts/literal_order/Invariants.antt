use Rattle.std.proofs.Common.{◌≡◌, ◌+◌, ℕ, List, length}
use Rattle.cob_move_receive.specs.Characters.{AreBytesOf}
use Rattle.cob_move_condition.specs.Compared.{text_order}
use Rattle.cob_move_condition.proofs.texts.literal_order.Given as goal

abbrev pub invariant-loop-left : goal.invariant-loop-left
invariant-loop-left l = (bytes : List ℕ) → AreBytesOf l.right bytes → (coded : List ℕ) × AreBytesOf l.fn.literal coded × (text_order l.fn.text coded ≡ text_order l.left bytes)

abbrev pub decreases-loop-left : goal.decreases-loop-left
decreases-loop-left l = length l.left + length l.right
