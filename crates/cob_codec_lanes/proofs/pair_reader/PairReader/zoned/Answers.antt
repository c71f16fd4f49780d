use Rattle.std.proofs.Common.{refl, arith}
use Rattle.cob_codec_lanes.proofs.PairReading.{zoned_pair, wanted_as}
use Rattle.cob_codec_lanes.proofs.pair_reader.PairReader.zoned.Goals as goal

pub returns : goal.returns
returns c =
    let s = c.args.shape.now in
    zoned_pair s.digits s.digits s.signed s.leading _ refl (omega (arith, c.requires)) (wanted_as _ _ _ _ _ _ c.front_digits.ensures.digits c.front_digits.ensures.shift c.zoned.ensures) (wanted_as _ _ _ _ _ _ c.last_digits.ensures.digits c.last_digits.ensures.shift c.zoned-2.ensures)
