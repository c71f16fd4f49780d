use Rattle.std.proofs.Common.{sym, ◌∙◌}
use Rattle.cob_codec_lanes.proofs.TextLemmas.{both_same}
use Rattle.cob_codec_lanes.proofs.text.are_both_same.Goals as goal

pub returns-then-are_same : goal.returns-then-are_same
returns-then-are_same c =
    let text = c.args.text.now in
    let both = both_same c.args.front c.args.back text.front text.back (c.fits-front.0 ∙ sym text.first) in
    (λ t. both.1 (c.are_same.ensures.0 c.if-are_same.true, c.are_same-then-are_same.ensures.0 t), λ e. c.are_same-then-are_same.ensures.1 (both.0 e).1)

pub returns-else-are_same : goal.returns-else-are_same
returns-else-are_same c =
    let text = c.args.text.now in
    let both = both_same c.args.front c.args.back text.front text.back (c.fits-front.0 ∙ sym text.first) in
    (λ t. absurd cc, λ e. c.are_same.ensures.1 (both.0 e).0)
