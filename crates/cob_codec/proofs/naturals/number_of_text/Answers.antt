use Rattle.std.proofs.Common.{◌≡◌, ◌+◌, ◌^◌, ◌<◌, arith, get_or}
use Rattle.cob_codec.proofs.NaturalLemmas.{more_text, room}
use Rattle.cob_codec.proofs.naturals.number_of_text.Goals as goal

pub overflow_mul-value : goal.overflow_mul-value
overflow_mul-value c =
    let small : c.loop-byte.value < 10 ^ 8 = room c.args.bytes.now c.loop-byte.byte-index c.loop-byte.value (omega arith) (omega arith) c.loop-byte.invariant.so_far in
    omega (arith, small)

pub overflow_add-value : goal.overflow_add-value
overflow_add-value c =
    let small : c.loop-byte.value < 10 ^ 8 = room c.args.bytes.now c.loop-byte.byte-index c.loop-byte.value (omega arith) (omega arith) c.loop-byte.invariant.so_far in
    omega (arith, small, c.from.ensures)

pub loop-byte-preserved : goal.loop-byte-preserved
loop-byte-preserved c =
    let at : get_or c.args.bytes.now c.loop-byte.byte-index 0 ≡ 240 + c.from.result = omega (arith, c.from.ensures) in
    record { so_far = more_text c.args.bytes.now c.loop-byte.byte-index c.from.result c.loop-byte.value c.loop-byte-test.true at (omega (arith, c.from.ensures)) c.loop-byte.invariant.so_far }
