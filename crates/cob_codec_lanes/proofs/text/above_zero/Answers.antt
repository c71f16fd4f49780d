use Rattle.std.proofs.Common.{arith}
use Rattle.cob_codec_lanes.proofs.LaneLemmas.{lane_fits}
use Rattle.cob_codec_lanes.proofs.TextLemmas.{above_at, above_length}
use Rattle.cob_codec_lanes.proofs.text.above_zero.Goals as goal

pub returns-clause-long : goal.returns-clause-long
returns-clause-long c = above_length c.args.v 240 c.fits-v.0

pub returns-clause-lanes : goal.returns-clause-lanes
returns-clause-lanes c i lt = above_at c.args.v 240 i (omega arith) c.fits-v.0 lt (lane_fits c.args.v i c.fits-v.1)
