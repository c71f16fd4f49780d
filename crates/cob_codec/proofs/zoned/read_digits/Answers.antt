use Rattle.std.proofs.Common.{◌<◌, length, arith}
use Rattle.cob_codec.proofs.ZonedLemmas.{digit_byte}
use Rattle.cob_codec.proofs.zoned.read_digits.Goals as goal

pub returns-then-byte-lt-ZERO-clause-none : goal.returns-then-byte-lt-ZERO-clause-none
returns-then-byte-lt-ZERO-clause-none c = λ digits valid text.
    let within : c.loop-byte.byte-index < length c.args.bytes.now = omega arith in
    let both = digit_byte c.args.bytes.now digits c.loop-byte.byte-index valid text within in
    omega (arith, both.0)

pub returns-then-digit-gt9-clause-none : goal.returns-then-digit-gt9-clause-none
returns-then-digit-gt9-clause-none c = λ digits valid text.
    let within : c.loop-byte.byte-index < length c.args.bytes.now = omega arith in
    let both = digit_byte c.args.bytes.now digits c.loop-byte.byte-index valid text within in
    omega (arith, both.1)
