use Rattle.std.proofs.Common.{ap, ◌∙◌}
use Rattle.cob_codec_lanes.specs.declared.text.LaneText.{LaneText}
use Rattle.cob_move_steps.specs.Numerals.{numeral_lane, numeral_zone}
use Rattle.cob_move_steps.proofs.NumeralLemmas.{numerals_made}
use Rattle.cob_move_steps.proofs.numerals_preparing.numerals_text.Goals as goal

pub returns : goal.returns
returns c =
    let item = c.args.item.now in
    let text : LaneText = record { picks = c.numeral_picks.result; plus = c.numeral_zones-zones.result; minus = c.numeral_zones-zones.result } in
    numerals_made item text c.requires.few
    (λ k lt. c.numeral_picks.ensures k lt ∙ ap (λ n. numeral_lane n k) (c.from.ensures ∙ c.digits.ensures.value))
    (λ k lt. c.numeral_zones-zones.ensures k lt ∙ ap (λ n. numeral_zone n k) c.numeral_count.ensures)
