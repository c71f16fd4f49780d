use Rattle.std.proofs.Common.{ap, ◌∙◌, arith}
use Rattle.cob_codec_lanes.specs.Texts.{digit_shown}
use Rattle.cob_codec_lanes.proofs.long_places.LongPlaces.digits.Goals as goal

pub returns : goal.returns
returns c = λ at are. record {
  long = c.digits_shown.ensures.long;
  each = λ k lt. c.digits_shown.ensures.lanes k (omega (arith, are.few)) ∙ ap digit_shown (c.long_bytes_at.ensures.each at are k lt);
  rest = λ k ge lt. c.digits_shown.ensures.lanes k lt ∙ ap digit_shown (c.long_bytes_at.ensures.rest at are k ge lt);
}
