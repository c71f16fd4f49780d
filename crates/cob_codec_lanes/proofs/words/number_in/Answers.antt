use Rattle.cob_codec_lanes.proofs.WordWriting.{fours_number}
use Rattle.cob_codec_lanes.proofs.words.number_in.Goals as goal

pub returns : goal.returns
returns c = λ tens.
    fours_number c.args.v c.fours_in.result c.from.result c.from-2.result c.from-3.result c.from-4.result c.fits-v.0 c.fours_in.ensures.lanes c.from.ensures c.from-2.ensures c.from-3.ensures c.from-4.ensures
