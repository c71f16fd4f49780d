use Rattle.std.proofs.Common.{arith}
use Rattle.std.proofs.lemmas.List.{length_push}
use Rattle.std.proofs.lemmas.Int.{ints}
use Rattle.cob_decimal.proofs.DecimalLemmas.{align_more}
use Rattle.cob_decimal.proofs.number.Number.align.Goals as goal

pub loop-place-preserved : goal.loop-place-preserved
loop-place-preserved c =
    record {
      count = grind (arith, length_push);
      value = rw c.push.ensures (align_more _ _ _ _ _ _ _ c.loop-place-test.true c.loop-place.invariant.value c.digit-digit.ensures.value (omega (arith, ints)));
    }
