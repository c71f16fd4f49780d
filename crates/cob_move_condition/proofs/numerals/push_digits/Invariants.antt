use Rattle.std.proofs.Common.{◌≡◌, ◌++◌, take}
use Rattle.cob_move_receive.specs.Characters.{numerals}
use Rattle.cob_move_condition.proofs.numerals.push_digits.Given as goal

abbrev pub invariant-loop-digit : goal.invariant-loop-digit
invariant-loop-digit l = l.text.items ≡ l.fn.text.items ++ numerals (take l.digit-index l.digits)
