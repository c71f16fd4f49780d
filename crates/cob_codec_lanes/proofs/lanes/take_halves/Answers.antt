use Rattle.std.proofs.Common.{◌+◌, ◌%◌, get_or, ap, ◌∙◌}
use Rattle.cob_codec_lanes.specs.Lanes.{picked_at}
use Rattle.cob_codec_lanes.proofs.LaneLemmas.{halves_taken}
use Rattle.cob_codec_lanes.proofs.lanes.take_halves.Goals as goal

pub returns-clause-lanes : goal.returns-clause-lanes
returns-clause-lanes c i lt =
    let p = get_or c.args.high.now.lanes i 0 in
    let q = get_or c.args.low.now.lanes i 0 in
    c.sums.ensures.lanes i lt
    ∙ ap (λ a. (a + get_or c.picked-2.result i 0) % 256) (c.picked.ensures.lanes i lt)
    ∙ ap (λ b. (picked_at c.highs-upper.result p + b) % 256) (c.picked-2.ensures.lanes i lt)
    ∙ halves_taken c.args.v c.highs-upper.result c.lows-lower.result p q c.highs-upper.ensures.lanes c.lows-lower.ensures.lanes c.fits-v.1
