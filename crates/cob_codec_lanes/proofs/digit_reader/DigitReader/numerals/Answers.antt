use Rattle.std.proofs.Common.{ℕ, ap, arith}
use Rattle.cob_codec_lanes.proofs.DigitKinds.{numeral_digits}
use Rattle.cob_codec_lanes.proofs.digit_reader.DigitReader.numerals.Goals as goal

pub returns : goal.returns
returns c =
    let n : ℕ = c.from-count.result in
    let is = c.with.ensures in
    numeral_digits n c.args.count c.with.result c.from-count.ensures (omega (arith, c.from-count.ensures, c.requires.many)) (record {
      size_is = ap (λ d. d.size) is.digits;
      first_is = ap (λ d. d.first) is.digits;
      count_is = ap (λ d. d.count) is.digits;
      place_is = ap (λ d. d.place) is.digits;
      free_is = is.free;
      sign_is = is.sign;
      signed_is = is.signed;
    })
