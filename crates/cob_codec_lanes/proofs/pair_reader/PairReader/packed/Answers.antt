use Rattle.std.proofs.Common.{◌+◌, ◌/◌, arith}
use Rattle.cob_codec_lanes.proofs.PairReading.{packed_pair, wanted_as}
use Rattle.cob_codec_lanes.proofs.pair_reader.PairReader.packed.Goals as goal

pub returns : goal.returns
returns c =
    let s = c.args.shape.now in
    packed_pair s.digits (s.digits / 2 + 1) s.signed _ (omega (arith, s.most)) (wanted_as _ _ _ _ _ _ c.front_digits.ensures.digits c.front_digits.ensures.shift c.packed.ensures) (wanted_as _ _ _ _ _ _ c.last_digits.ensures.digits c.last_digits.ensures.shift c.packed-2.ensures)
