use Rattle.std.proofs.Common.{◌<◌, ◌%◌, get_or, length, arith}
use Rattle.cob_codec.proofs.AnyZoneLemmas.{low_small}
use Rattle.cob_codec.proofs.any_zones.low_digits.Goals as goal

pub returns-then-digit-gt9-clause-none : goal.returns-then-digit-gt9-clause-none
returns-then-digit-gt9-clause-none c = λ valid.
    let within : c.loop-byte.byte-index < length c.args.bytes.now = omega arith in
    let small : get_or c.args.bytes.now c.loop-byte.byte-index 0 % 16 < 10 = low_small c.args.bytes.now c.loop-byte.byte-index valid within in
    omega arith
