use Rattle.std.proofs.Common.{w8}
use Rattle.std.proofs.lemmas.Simd.{below_from_Fits, dot4_Fits}
use Rattle.cob_codec_lanes.proofs.FourLemmas.{backs, four_at, fronts, length_made}
use Rattle.cob_codec_lanes.proofs.words.fours_in.Goals as goal

pub dot4-front : goal.dot4-front
dot4-front c = (dot4_Fits c.args.v (fronts 4) c.fits-v.1 tt, tt)

pub dot4-back : goal.dot4-back
dot4-back c = (dot4_Fits c.args.v (backs 4) c.fits-v.1 tt, tt)

pub returns-clause-long : goal.returns-clause-long
returns-clause-long c = length_made 4 c.args.v c.fits-v.0

pub returns-clause-lanes : goal.returns-clause-lanes
returns-clause-lanes c i lt = four_at 4 c.args.v i c.fits-v.0 (below_from_Fits w8 c.args.v c.fits-v.1) lt
