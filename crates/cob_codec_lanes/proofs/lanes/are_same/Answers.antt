use Rattle.cob_codec_lanes.proofs.LaneLemmas.{same_of_mask}
use Rattle.cob_codec_lanes.proofs.lanes.are_same.Goals as goal

pub returns : goal.returns
returns c = same_of_mask c.args.a c.args.b c.fits-a.0 c.fits-b.0
