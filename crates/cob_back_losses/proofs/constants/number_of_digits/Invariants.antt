use Rattle.std.proofs.Common.{◌≡◌, take}
use Rattle.cob_decimal.specs.Literals.{digits_in}
use Rattle.cob_back_losses.proofs.constants.number_of_digits.Given as goal

abbrev pub invariant-loop-character : goal.invariant-loop-character
invariant-loop-character l = l.digits ≡ digits_in (take l.character-index l.text)
