use Rattle.std.proofs.Common.{◌+◌, arith}
use Rattle.cob_codec_lanes.proofs.PairReading.{separate_pair, wanted_as}
use Rattle.cob_codec_lanes.proofs.pair_reader.PairReader.separate.Goals as goal

pub returns : goal.returns
returns c =
    let s = c.args.shape.now in
    separate_pair s.digits (s.digits + 1) s.leading _ (omega (arith, c.requires)) (wanted_as _ _ _ _ _ _ c.front_digits.ensures.digits c.front_digits.ensures.shift c.separate.ensures) (wanted_as _ _ _ _ _ _ c.last_digits.ensures.digits c.last_digits.ensures.shift c.separate-2.ensures)
