use Rattle.std.proofs.Common.{◌≡◌, ℕ, ◌^◌, ◌<◌, sym, ◌∙◌, arith}
use Rattle.cob_decimal.specs.Decimal.{number_of}
use Rattle.cob_decimal.proofs.DecimalLemmas.{number_of-lt}
use Rattle.cob_codec.proofs.BinaryLaws.{same_signed}
use Rattle.cob_codec.proofs.binary.read_binary.Goals as goal

pub returns-then-magnitude-power_of_ten-clause-none : goal.returns-then-magnitude-power_of_ten-clause-none
returns-then-magnitude-power_of_ten-clause-none c = λ negative digits it.
    let magnitude : ℕ = c.signed_in-negative.result.1 in
    let same = same_signed negative c.signed_in-negative.result.0 (number_of digits) magnitude it.nonzero c.signed_in-negative.ensures.nonzero (it.value ∙ sym c.signed_in-negative.ensures.value) in
    let equal : number_of digits ≡ magnitude = same.1 in
    let small : number_of digits < 10 ^ c.args.shape.now.digits = rw (← it.count_is) (number_of-lt digits it.valid) in
    omega (arith, c.power_of_ten.ensures)
