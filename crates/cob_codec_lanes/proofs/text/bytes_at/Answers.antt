use Rattle.std.proofs.Common.{◌<◌, ◌+◌, ◌%◌, get_or, ap, ◌∙◌, arith}
use Rattle.cob_codec_lanes.specs.Lanes.{picked_at}
use Rattle.cob_codec_lanes.proofs.LaneLemmas.{lane_fits}
use Rattle.cob_codec_lanes.proofs.TextLemmas.{none_picked, place_picked}
use Rattle.cob_codec_lanes.proofs.text.bytes_at.Goals as goal

pub returns-clause-each : goal.returns-clause-each
returns-clause-each c = λ at are k lt.
    let here : k < 16 = omega (arith, are.few) in
    c.sums.ensures.lanes k here
    ∙ ap (λ a. (a + get_or c.picked-2.result k 0) % 256) (c.picked.ensures.lanes k here)
    ∙ ap (λ b. (picked_at c.args.front (get_or c.args.places.now.front.lanes k 0) + b) % 256) (c.picked-2.ensures.lanes k here)
    ∙ place_picked at c.args.front c.args.back c.args.places.now k are c.fits-front.0 (λ i. lane_fits c.args.front i c.fits-front.1) (λ i. lane_fits c.args.back i c.fits-back.1) lt

pub returns-clause-rest : goal.returns-clause-rest
returns-clause-rest c = λ at are k ge lt.
    c.sums.ensures.lanes k lt
    ∙ ap (λ a. (a + get_or c.picked-2.result k 0) % 256) (c.picked.ensures.lanes k lt)
    ∙ ap (λ b. (picked_at c.args.front (get_or c.args.places.now.front.lanes k 0) + b) % 256) (c.picked-2.ensures.lanes k lt)
    ∙ none_picked at c.args.front c.args.back c.args.places.now k are ge lt
