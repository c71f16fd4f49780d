use Rattle.std.proofs.Common.{rules, arith, subst}
use Rattle.cob_records.proofs.Spelled.{SpelledSoFar, digit_spelled}
use Rattle.cob_records.proofs.block_size.block_size_of.Goals as goal

pub loop-digit-preserved : goal.loop-digit-preserved
loop-digit-preserved c =
    digit_spelled c.args.word.now c.in-Some.after.now c.in-Some.digit.now c.loop-digit.number c.saturating_add-number.result
    (subst (λ xs. SpelledSoFar c.args.word.now xs c.loop-digit.number) (search rules) c.loop-digit.invariant)
    (search rules) (omega (arith, c.saturating_add-number.ensures, c.saturating_mul.ensures, c.from.ensures))
