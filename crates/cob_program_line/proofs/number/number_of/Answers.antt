use Rattle.std.proofs.Common.{rules, arith, subst}
use Rattle.cob_program_line.proofs.Digits.{ReadSoFar, digit_read}
use Rattle.cob_program_line.proofs.number.number_of.Goals as goal

pub loop-digit-preserved : goal.loop-digit-preserved
loop-digit-preserved c =
    digit_read c.args.word.now c.in-Some.after.now c.in-Some.digit.now c.loop-digit.number c.saturating_add-number.result
    (subst (λ xs. ReadSoFar c.args.word.now xs c.loop-digit.number) (search rules) c.loop-digit.invariant)
    (search rules) (omega (arith, c.saturating_add-number.ensures, c.saturating_mul.ensures, c.from.ensures))
