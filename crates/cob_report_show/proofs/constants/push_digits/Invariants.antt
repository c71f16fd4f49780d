use Rattle.std.proofs.Common.{◌≡◌, ◌++◌, take}
use Rattle.cob_decimal.specs.Literals.{characters}
use Rattle.cob_report_show.proofs.constants.push_digits.Given as goal

abbrev pub invariant-loop-digit : goal.invariant-loop-digit
invariant-loop-digit l = l.out.items ≡ l.fn.out.items ++ characters (take l.digit-index l.digits)
