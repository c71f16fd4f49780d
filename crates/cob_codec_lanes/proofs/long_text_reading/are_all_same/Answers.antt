use Rattle.std.proofs.Common.{◌≡◌, ◌++◌, length, arith, length-append}
use Rattle.cob_codec_lanes.specs.Texts.{all_lanes}
use Rattle.cob_codec_lanes.proofs.TextLemmas.{both_same}
use Rattle.cob_codec_lanes.proofs.long_text_reading.are_all_same.Goals as goal

pub returns-then-are_both_same : goal.returns-then-are_both_same
returns-then-are_both_same c =
    let text = c.args.text.now in
    let long : length (c.args.first ++ c.args.second) ≡ length (all_lanes text.lead) =
    omega (arith, length-append c.args.first c.args.second, length-append text.lead.front text.lead.back, c.fits-first.0, c.fits-second.0, text.lead.first, text.lead.last) in
    let both = both_same (c.args.first ++ c.args.second) c.args.third (all_lanes text.lead) text.last long in
    (λ t. both.1 (c.are_both_same.ensures.0 c.if-are_both_same.true, c.are_same.ensures.0 t), λ e. c.are_same.ensures.1 (both.0 e).1)

pub returns-else-are_both_same : goal.returns-else-are_both_same
returns-else-are_both_same c =
    let text = c.args.text.now in
    let long : length (c.args.first ++ c.args.second) ≡ length (all_lanes text.lead) =
    omega (arith, length-append c.args.first c.args.second, length-append text.lead.front text.lead.back, c.fits-first.0, c.fits-second.0, text.lead.first, text.lead.last) in
    let both = both_same (c.args.first ++ c.args.second) c.args.third (all_lanes text.lead) text.last long in
    (λ t. absurd cc, λ e. c.are_both_same.ensures.1 (both.0 e).0)
