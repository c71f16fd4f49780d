use Rattle.std.proofs.Common.{arith}
use Rattle.cob_codec.proofs.NaturalLemmas.{unsigned_is_binary}
use Rattle.cob_codec.proofs.binary.Binary.natural.Goals as goal

pub returns : goal.returns
returns c = λ signed.
    unsigned_is_binary c.args.count signed c.args.bytes.now c.few_unsigned_in-number.result (omega (arith, c.if-count-gt-MOST_QUICK_DIGITS.false)) c.requires c.few_unsigned_in-number.ensures
    (omega (arith, c.few_power_of_ten.ensures, c.if-number-few_power_of_ten.false))
