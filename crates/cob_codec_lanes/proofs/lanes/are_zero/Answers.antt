use Rattle.cob_codec_lanes.proofs.LaneLemmas.{zero_of_mask}
use Rattle.cob_codec_lanes.proofs.lanes.are_zero.Goals as goal

pub returns : goal.returns
returns c = zero_of_mask c.args.v c.fits-v.0
