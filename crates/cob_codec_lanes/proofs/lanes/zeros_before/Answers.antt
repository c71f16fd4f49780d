use Rattle.std.proofs.Common.{◌∙◌}
use Rattle.cob_codec_lanes.proofs.LaneLemmas.{first_lane_set}
use Rattle.cob_codec_lanes.proofs.lanes.zeros_before.Goals as goal

pub returns : goal.returns
returns c = c.first_set.ensures ∙ first_lane_set c.args.digits c.fits-digits.0
