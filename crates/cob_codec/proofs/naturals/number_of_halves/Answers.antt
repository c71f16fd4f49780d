use Rattle.std.proofs.Common.{◌^◌, ◌<◌, arith, length-take-le, take}
use Rattle.cob_codec.proofs.NaturalLemmas.{few_halves, more_of_halves}
use Rattle.cob_codec.proofs.naturals.number_of_halves.Goals as goal

pub overflow_mul-value : goal.overflow_mul-value
overflow_mul-value c =
    let i = c.loop-byte.byte-index in
    let small : c.loop-byte.value < 10 ^ 6 = few_halves (take i c.args.bytes.now) 3 c.loop-byte.value (omega (arith, length-take-le i c.args.bytes.now (omega arith))) c.loop-byte.invariant.so_far in
    omega (arith, small)

pub overflow_add-value : goal.overflow_add-value
overflow_add-value c =
    let i = c.loop-byte.byte-index in
    let small : c.loop-byte.value < 10 ^ 6 = few_halves (take i c.args.bytes.now) 3 c.loop-byte.value (omega (arith, length-take-le i c.args.bytes.now (omega arith))) c.loop-byte.invariant.so_far in
    omega (arith, small, c.from.ensures)

pub overflow_add-value-in-loop-byte : goal.overflow_add-value-in-loop-byte
overflow_add-value-in-loop-byte c =
    let i = c.loop-byte.byte-index in
    let small : c.loop-byte.value < 10 ^ 6 = few_halves (take i c.args.bytes.now) 3 c.loop-byte.value (omega (arith, length-take-le i c.args.bytes.now (omega arith))) c.loop-byte.invariant.so_far in
    omega (arith, small, c.from.ensures, c.from-in-loop-byte.ensures)

pub loop-byte-preserved : goal.loop-byte-preserved
loop-byte-preserved c =
    let more = more_of_halves c.args.bytes.now c.loop-byte.byte-index c.loop-byte.value c.loop-byte-test.true (omega arith) (omega arith) c.loop-byte.invariant.so_far in
    record { so_far = (more.0, omega (arith, more.1, c.from.ensures, c.from-in-loop-byte.ensures)) }
