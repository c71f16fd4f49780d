use Rattle.std.proofs.Common.{◌<◌, get_or, replicate, ap, sym, ◌∙◌, arith, w16}
use Rattle.std.proofs.lemmas.Simd.{length-zip2, get_or-zip2, Each1-get_or, below_from_Fits}
use lib.Lanes.{zip2}
use Rattle.cob_codec_lanes.proofs.WordLemmas.{minus, times, at_splat, length_splat, left_hundred}
use Rattle.cob_codec_lanes.proofs.words.units.Goals as goal

pub returns-clause-long : goal.returns-clause-long
returns-clause-long c = length-zip2 minus c.args.v (zip2 times c.args.by (replicate 8 100)) (c.fits-v.0 ∙ sym (length_splat times c.args.by 8 100 c.fits-by.0)) ∙ c.fits-v.0

pub returns-clause-lanes : goal.returns-clause-lanes
returns-clause-lanes c i lt =
    get_or-zip2 minus c.args.v (zip2 times c.args.by (replicate 8 100)) i 0 0 0 (omega (arith, c.fits-v.0)) (omega (arith, length_splat times c.args.by 8 100 c.fits-by.0))
    ∙ ap (minus (get_or c.args.v i 0)) (at_splat times c.args.by 8 100 i c.fits-by.0 lt)
    ∙ left_hundred (get_or c.args.v i 0) (get_or c.args.by i 0) (Each1-get_or (λ x. x < 65536) c.args.v i 0 (omega (arith, c.fits-v.0)) (below_from_Fits w16 c.args.v c.fits-v.1)) (c.requires i lt)
