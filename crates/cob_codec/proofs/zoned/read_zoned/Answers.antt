use Rattle.cob_codec.proofs.ZonedLaws.{zoned_digit}
use Rattle.std.proofs.Common.{◌<◌, ◌%◌, get_or, length, arith}
use Rattle.cob_codec.proofs.zoned.read_zoned.Goals as goal

pub returns-then-digit-gt9-clause-none : goal.returns-then-digit-gt9-clause-none
returns-then-digit-gt9-clause-none c = λ negative digits zoned.
    let within : c.loop-at.at < length c.args.bytes.now = omega arith in
    let small : get_or c.args.bytes.now c.loop-at.at 0 % 16 < 10 = zoned_digit c.args.shape.now.digits c.args.shape.now.signed c.args.shape.now.leading c.args.bytes.now negative digits c.loop-at.at zoned within in
    omega arith
