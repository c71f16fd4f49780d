use Rattle.std.proofs.Common.{◌∙◌, w8}
use Rattle.std.proofs.lemmas.Simd.{length-swz_l}
use Rattle.cob_codec_lanes.proofs.LaneLemmas.{lane_fits, picked_lane, picks_ok}
use Rattle.cob_codec_lanes.proofs.TextLemmas.{above_pick, shown_by, table}
use Rattle.cob_codec_lanes.proofs.text.digits_shown.Goals as goal

pub swizzle : goal.swizzle
swizzle c =
    let above = c.above_zero.ensures in
    picks_ok c.above_zero.result above.long (λ i lt. above_pick _ _ (lane_fits c.args.v i c.fits-v.1) (above.lanes i lt))

pub returns-clause-long : goal.returns-clause-long
returns-clause-long c = length-swz_l w8 16 table 0 c.above_zero.result ∙ c.above_zero.ensures.long

pub returns-clause-lanes : goal.returns-clause-lanes
returns-clause-lanes c i lt =
    let above = c.above_zero.ensures in
    picked_lane table c.above_zero.result i above.long (λ k below. above_pick _ _ (lane_fits c.args.v k c.fits-v.1) (above.lanes k below)) lt
    ∙ shown_by _ _ (lane_fits c.args.v i c.fits-v.1) (above.lanes i lt)
