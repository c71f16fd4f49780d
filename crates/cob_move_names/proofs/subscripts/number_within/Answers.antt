use Rattle.std.proofs.Common.{refl, arith, ◌+◌}
use Rattle.cob_layout.proofs.EntryNumbers.{one_digit_more}
use Rattle.cob_move_names.proofs.SubscriptLemmas.{at_least, digits_more}
use Rattle.cob_move_names.proofs.subscripts.number_within.Goals as goal

pub returns-then-next-from-clause-none : goal.returns-then-next-from-clause-none
returns-then-next-from-clause-none c = λ digits.
    let more = one_digit_more c.args.text.now c.loop-character.character-index c.loop-character-test.true in
    omega (arith, more, at_least c.args.text.now (c.loop-character.character-index + 1), c.loop-character.invariant.value)

pub loop-character-preserved : goal.loop-character-preserved
loop-character-preserved c =
    let more = one_digit_more c.args.text.now c.loop-character.character-index c.loop-character-test.true in
    let digit = c.if-not-is_digit.ensures.yes refl in
    record { digits = digits_more c.args.text.now c.loop-character.character-index c.loop-character-test.true c.loop-character.invariant.digits digit.0 digit.1; value = omega (arith, more, c.loop-character.invariant.value); most = omega arith }
