use Rattle.std.proofs.Common.{◌≡◌, ℕ, ◌^◌, ◌<◌, List, ap, ◌∙◌, arith}
use Rattle.cob_decimal.specs.Decimal.{number_of}
use Rattle.cob_decimal.proofs.DecimalLemmas.{number_of-lt}
use Rattle.cob_codec.proofs.binary.BinaryStorage.store.Goals as goal

pub unsigned_of-unsigned-requires-clause-fits : goal.unsigned_of-unsigned-requires-clause-fits
unsigned_of-unsigned-requires-clause-fits c =
    let ds : List ℕ = c.args.number.now.digits in
    let value : c.magnitude_of-magnitude.result ≡ number_of ds = c.magnitude_of-magnitude.ensures ∙ ap number_of (c.as_slice.ensures.value ∙ c.digits.ensures) in
    let valid = rw c.digits.ensures at c.as_slice.ensures.digits in
    let small : number_of ds < 10 ^ c.args.shape.now.digits = rw (← c.requires.digits) (number_of-lt ds valid) in
    omega arith
