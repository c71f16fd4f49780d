use Rattle.std.proofs.Common.{◌*◌, ℕ, refl, ap, arith}
use Rattle.cob_codec_lanes.proofs.DigitWriting.{zoned_digit_writer}
use Rattle.cob_codec_lanes.proofs.digit_writer.DigitWriter.zoned.Goals as goal

pub returns : goal.returns
returns c =
    let s = c.args.shape.now in
    let n : ℕ = c.from-count.result in
    zoned_digit_writer n s.digits s.signed s.leading _ c.from-count.ensures (omega (arith, c.from-count.ensures, c.requires)) (record {
      size_is = refl;
      first_is = refl;
      count_is = refl;
      place_is = c.sign_place.ensures.place;
      own_is = refl;
      plus_is = ap (λ k. k * 16) c.sign_code.ensures;
      minus_is = ap (λ k. k * 16) c.sign_code-2.ensures;
    })
