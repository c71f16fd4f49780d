use Rattle.std.proofs.Common.{ℕ, ap, ◌∙◌}
use Rattle.cob_codec_lanes.proofs.DigitKinds.{zoned_digits}
use Rattle.cob_codec_lanes.proofs.digit_reader.DigitReader.zoned.Goals as goal

pub returns : goal.returns
returns c =
    let s = c.args.shape.now in
    let n : ℕ = c.from-count.result in
    let is = c.with.ensures in
    zoned_digits n s.digits s.signed s.leading c.with.result c.from-count.ensures (record {
      size_is = ap (λ d. d.size) is.digits;
      first_is = ap (λ d. d.first) is.digits;
      count_is = ap (λ d. d.count) is.digits;
      place_is = ap (λ d. d.place) is.digits ∙ c.sign_place-place.ensures.place;
      free_is = is.free ∙ c.sign_place-place.ensures.place;
      sign_is = is.sign;
      signed_is = is.signed;
    })
