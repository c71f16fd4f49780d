use Rattle.std.proofs.Common.{ℕ, ◌/◌, ◌^◌, get_or, replicate, ap, ◌∙◌, arith}
use Rattle.std.proofs.lemmas.Simd.{length-zip2, get_or-zip2, get_or-replicate}
use Rattle.cob_codec_lanes.proofs.lanes.highs.Goals as goal

abbrev down : ℕ → ℕ → ℕ
down a b = a / 2 ^ b

pub returns-clause-long : goal.returns-clause-long
returns-clause-long c = length-zip2 down c.args.v (replicate 16 4) c.fits-v.0 ∙ c.fits-v.0

pub returns-clause-lanes : goal.returns-clause-lanes
returns-clause-lanes c i h =
    get_or-zip2 down c.args.v (replicate 16 4) i 0 0 0 (omega (arith, c.fits-v.0)) h ∙ ap (down (get_or c.args.v i 0)) (get_or-replicate 16 i 4 0 h)
