use Rattle.std.proofs.Common.{◌≡◌, take, ◌++◌}
use Rattle.cob_decimal.specs.Literals.{digits_in}
use Rattle.cob_decimal.proofs.digits.Digits.push_text.Given as goal

abbrev pub invariant-loop-character : goal.invariant-loop-character
invariant-loop-character l = l.self ≡ l.fn.self ++ digits_in (take l.character-index l.text)
