use Rattle.std.proofs.Common.{w8, ◌∙◌}
use Rattle.std.proofs.lemmas.Simd.{length-swz_l}
use Rattle.cob_codec_lanes.proofs.LaneLemmas.{picks_ok, picked_lane}
use Rattle.cob_codec_lanes.proofs.lanes.picked.Goals as goal

pub swizzle : goal.swizzle
swizzle c = picks_ok c.args.at.now.lanes c.args.at.now.long c.args.at.now.valid

pub returns-clause-long : goal.returns-clause-long
returns-clause-long c = length-swz_l w8 16 c.args.v 0 c.args.at.now.lanes ∙ c.args.at.now.long

pub returns-clause-lanes : goal.returns-clause-lanes
returns-clause-lanes c i h = picked_lane c.args.v c.args.at.now.lanes i c.args.at.now.long c.args.at.now.valid h
