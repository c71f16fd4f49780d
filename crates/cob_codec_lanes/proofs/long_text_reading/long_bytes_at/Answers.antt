use Rattle.std.proofs.Common.{◌<◌, ◌+◌, ◌%◌, get_or, ap, ◌∙◌, arith}
use Rattle.cob_codec_lanes.specs.Lanes.{picked_at}
use Rattle.cob_codec_lanes.proofs.LaneLemmas.{lane_fits}
use Rattle.cob_codec_lanes.proofs.LongPlaceLemmas.{none_of_three, place_of_three}
use Rattle.cob_codec_lanes.proofs.long_text_reading.long_bytes_at.Goals as goal

pub returns-clause-each : goal.returns-clause-each
returns-clause-each c = λ at are k lt.
    let here : k < 16 = omega (arith, are.few) in
    let first = c.args.first in
    let second = c.args.second in
    let third = c.args.third in
    let places = c.args.places.now in
    c.sums.ensures.lanes k here
    ∙ ap (λ a. (a + get_or c.picked-3.result k 0) % 256) (c.sums-lead.ensures.lanes k here)
    ∙ ap (λ a. ((a + get_or c.picked-2.result k 0) % 256 + get_or c.picked-3.result k 0) % 256) (c.picked.ensures.lanes k here)
    ∙ ap (λ b. ((picked_at first (get_or places.first.lanes k 0) + b) % 256 + get_or c.picked-3.result k 0) % 256) (c.picked-2.ensures.lanes k here)
    ∙ ap (λ d. ((picked_at first (get_or places.first.lanes k 0) + picked_at second (get_or places.second.lanes k 0)) % 256 + d) % 256) (c.picked-3.ensures.lanes k here)
    ∙ place_of_three at first second third places k are c.fits-first.0 c.fits-second.0 (λ i. lane_fits first i c.fits-first.1) (λ i. lane_fits second i c.fits-second.1) (λ i. lane_fits third i c.fits-third.1) lt

pub returns-clause-rest : goal.returns-clause-rest
returns-clause-rest c = λ at are k ge lt.
    let first = c.args.first in
    let second = c.args.second in
    let third = c.args.third in
    let places = c.args.places.now in
    c.sums.ensures.lanes k lt
    ∙ ap (λ a. (a + get_or c.picked-3.result k 0) % 256) (c.sums-lead.ensures.lanes k lt)
    ∙ ap (λ a. ((a + get_or c.picked-2.result k 0) % 256 + get_or c.picked-3.result k 0) % 256) (c.picked.ensures.lanes k lt)
    ∙ ap (λ b. ((picked_at first (get_or places.first.lanes k 0) + b) % 256 + get_or c.picked-3.result k 0) % 256) (c.picked-2.ensures.lanes k lt)
    ∙ ap (λ d. ((picked_at first (get_or places.first.lanes k 0) + picked_at second (get_or places.second.lanes k 0)) % 256 + d) % 256) (c.picked-3.ensures.lanes k lt)
    ∙ none_of_three at first second third places k are ge lt
