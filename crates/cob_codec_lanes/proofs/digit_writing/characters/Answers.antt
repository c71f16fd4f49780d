use Rattle.std.proofs.Common.{replicate}
use Rattle.std.proofs.lemmas.List.{get_or-replicate}
use Rattle.cob_codec_lanes.proofs.DigitWriting.{characters_are}
use Rattle.cob_codec_lanes.proofs.digit_writing.characters.Goals as goal

pub returns : goal.returns
returns c = λ tens.
    characters_are c.args.digits (replicate 16 240) c.sums.result c.fits-digits.0 tens c.sums.ensures.long (λ i lt. get_or-replicate 16 i 240 0 lt) c.sums.ensures.lanes
