use Rattle.std.proofs.Common.{rules}
use Rattle.std.proofs.lemmas.Simd.{Each2-splat, Each1-all}
use Rattle.cob_codec_lanes.proofs.WordLemmas.{by, at_splat, length_splat}
use Rattle.cob_codec_lanes.proofs.words.hundreds.Goals as goal

pub nonzero_div-result : goal.nonzero_div-result
nonzero_div-result c = Each2-splat _ c.args.v 8 100 (Each1-all _ (λ a. search rules) c.args.v)

pub returns-clause-long : goal.returns-clause-long
returns-clause-long c = length_splat by c.args.v 8 100 c.fits-v.0

pub returns-clause-lanes : goal.returns-clause-lanes
returns-clause-lanes c i lt = at_splat by c.args.v 8 100 i c.fits-v.0 lt
