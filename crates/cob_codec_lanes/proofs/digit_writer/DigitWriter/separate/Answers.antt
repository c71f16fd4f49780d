use Rattle.std.proofs.Common.{ℕ, refl}
use Rattle.cob_codec_lanes.proofs.DigitWriting.{separate_digit_writer}
use Rattle.cob_codec_lanes.proofs.digit_writer.DigitWriter.separate.Goals as goal

pub returns : goal.returns
returns c =
    let s = c.args.shape.now in
    let n : ℕ = c.from-count.result in
    separate_digit_writer n s.digits s.leading _ c.from-count.ensures (record {
      size_is = refl;
      first_is = c.first_byte.ensures.byte;
      count_is = refl;
      place_is = c.own_sign_byte.ensures.byte;
      own_is = refl;
      plus_is = c.sign_byte.ensures;
      minus_is = c.sign_byte-2.ensures;
    })
