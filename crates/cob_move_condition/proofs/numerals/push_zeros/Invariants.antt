use Rattle.std.proofs.Common.{◌≡◌, ◌++◌, replicate}
use Rattle.cob_move_condition.proofs.numerals.push_zeros.Given as goal

abbrev pub invariant-loop-i : goal.invariant-loop-i
invariant-loop-i l = l.text.items ≡ l.fn.text.items ++ replicate l.i 0xF0
