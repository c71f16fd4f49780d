use Rattle.std.proofs.Common.{ℕ, ◌+◌, ◌%◌, ◌^◌, ◌∙◌, arith, sym}
use Rattle.std.proofs.lemmas.Simd.{length-zip2, get_or-zip2}
use Rattle.cob_codec_lanes.proofs.lanes.sums.Goals as goal

abbrev plus : ℕ → ℕ → ℕ
plus a b = (a + b) % 2 ^ 8

pub returns-clause-long : goal.returns-clause-long
returns-clause-long c = length-zip2 plus c.args.a c.args.b (c.fits-a.0 ∙ sym c.fits-b.0) ∙ c.fits-a.0

pub returns-clause-lanes : goal.returns-clause-lanes
returns-clause-lanes c i h =
    get_or-zip2 plus c.args.a c.args.b i 0 0 0 (omega (arith, c.fits-a.0)) (omega (arith, c.fits-b.0))
