use Rattle.std.proofs.Common.{arith}
use Rattle.cob_codec_lanes.proofs.PairReading.{numeral_pair, wanted_as}
use Rattle.cob_codec_lanes.proofs.pair_reader.PairReader.numerals.Goals as goal

pub returns : goal.returns
returns c =
    numeral_pair c.args.count c.args.count _ (omega (arith, c.requires.most)) (wanted_as _ _ _ _ _ _ c.front_digits.ensures.digits c.front_digits.ensures.shift c.numerals.ensures) (wanted_as _ _ _ _ _ _ c.last_digits.ensures.digits c.last_digits.ensures.shift c.numerals-2.ensures)
