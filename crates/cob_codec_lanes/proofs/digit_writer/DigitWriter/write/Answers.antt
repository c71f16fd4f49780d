use Rattle.std.proofs.Common.{ℕ, ◌-◌, ◌+◌, List, ◌++◌, take, ap, ◌∙◌, arith}
use Rattle.cob_codec.specs.Zoned.{digit_bytes}
use Rattle.cob_codec_lanes.proofs.DigitWriting.{both_long, both_valid, made_of, part_long}
use Rattle.cob_codec_lanes.proofs.digit_writer.DigitWriter.write.Goals as goal

pub returns : goal.returns
returns c = record {
  made = λ tens more.
      let w = c.args.self.now in
      let d = w.digits in
      let front = c.args.front in
      let back = c.args.back in
      let ds : List ℕ = take (d.count - 16) front ++ back in
      made_of w c.args.minus c.args.out.now c.put_characters.new.out ds (d.first + d.count - d.first) c.sign_of.result c.digit_under.result c.requires (omega arith)
      (both_long d.count front back d.many d.room c.fits-front.0 c.fits-back.0) (both_valid d.count front back d.many d.room c.fits-front.0 c.fits-back.0 tens more)
      (c.put_characters.ensures tens more ∙ ap (λ n. digit_bytes (take (n - 16) front ++ back)) (part_long d.first d.count (d.first + d.count - d.first) c.args.out.now (omega arith) (omega (arith, c.requires, d.within)))) w.among d.within d.signed c.sign_of.ensures.sign c.digit_under.ensures.digit;
}
