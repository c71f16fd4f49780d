use Rattle.std.proofs.Common.{arith}
use Rattle.cob_picture.specs.declared.symbol.Symbol.TheVariants.{A}
use Rattle.cob_picture.specs.declared.symbol.Run.{Run}
use Rattle.cob_picture.proofs.Placed.{digits_step}
use Rattle.cob_picture.proofs.counts.digits_of.Goals as goal

pub overflow_add-digits : goal.overflow_add-digits
overflow_add-digits c = omega (arith, c.digits_in-digits.ensures.bound, c.loop-run.invariant.bound, c.requires.short)

pub loop-run-preserved : goal.loop-run-preserved
loop-run-preserved c =
    let d : Run = record { symbol = A; count = 0 } in
    let step = digits_step c.args.category c.args.floating c.loop-run.seen c.args.runs.now c.loop-run.run-index d c.loop-run-test.true c.loop-run.invariant.positive in
    record {
      value = rw (c.is_seen_by-seen.ensures) (omega (arith, step.0, c.digits_in-digits.ensures.value, c.loop-run.invariant.value));
      positive = step.1;
      bound = omega (arith, c.digits_in-digits.ensures.bound, c.loop-run.invariant.bound);
    }
