use Rattle.std.proofs.Common.{bit_and, get_or, replicate, ap, ◌∙◌, arith}
use Rattle.std.proofs.lemmas.Nat.{and_mask}
use Rattle.std.proofs.lemmas.Simd.{length-zip2, get_or-zip2, get_or-replicate}
use Rattle.cob_codec_lanes.proofs.lanes.lows.Goals as goal

pub returns-clause-long : goal.returns-clause-long
returns-clause-long c = length-zip2 bit_and c.args.v (replicate 16 15) c.fits-v.0 ∙ c.fits-v.0

pub returns-clause-lanes : goal.returns-clause-lanes
returns-clause-lanes c i h =
    get_or-zip2 bit_and c.args.v (replicate 16 15) i 0 0 0 (omega (arith, c.fits-v.0)) h ∙ ap (bit_and (get_or c.args.v i 0)) (get_or-replicate 16 i 15 0 h) ∙ and_mask (get_or c.args.v i 0) 4
