use Rattle.std.proofs.Common.{◌+◌, arith}
use Rattle.cob_layout_places.proofs.CountLemmas.{digits_so_far, one_digit}
use Rattle.cob_layout_places.proofs.naturals.whole.Goals as goal

pub loop-digit-preserved : goal.loop-digit-preserved
loop-digit-preserved c =
    let d = one_digit c.args.digits.now c.loop-digit.digit-index c.loop-digit-test.true in
    record {
      value = omega (arith, d, c.loop-digit.invariant.value, c.from.ensures);
      small = omega (arith, c.if-value-from.false, c.from-in-loop-digit.ensures);
    }

pub returns-then-value-from-clause-none : goal.returns-then-value-from-clause-none
returns-then-value-from-clause-none c =
    let d = one_digit c.args.digits.now c.loop-digit.digit-index c.loop-digit-test.true in
    let m = digits_so_far c.args.digits.now (c.loop-digit.digit-index + 1) in
    omega (arith, d, m, c.loop-digit.invariant.value, c.from.ensures, c.if-value-from.true, c.from-in-loop-digit.ensures)
