use Rattle.std.proofs.Common.{◌≡◌, ℕ, refl, ap, get_or, ◌∙◌, arith}
use Rattle.std.proofs.lemmas.List.{get_or-replicate}
use Rattle.cob_codec_lanes.proofs.HalfLemmas.{lane_from}
use Rattle.cob_codec_lanes.proofs.PackedReading.{packed_reader}
use Rattle.cob_codec_lanes.proofs.reader.LaneReader.packed.Goals as goal

pub returns : goal.returns
returns c =
    let s = c.args.shape.now in
    let n : ℕ = c.from-count.result in
    let e : n ≡ s.digits = c.from-count.ensures in
    packed_reader n s.digits s.signed c.args.wanted.digits c.args.wanted.shift _ e (record {
      some = omega (arith, e, s.some);
      most = omega (arith, e, s.most);
      room = c.args.wanted.most;
      least_high = λ i lt. ap (λ l. get_or l i 0) c.below-bounds.ensures.least_high ∙ get_or-replicate 16 i 0 0 lt;
      most_high = λ i lt. ap (λ l. get_or l i 0) c.below-bounds.ensures.most_high ∙ c.with_lane-most_high.ensures i lt ∙ lane_from i _ _ _ _ _ _ refl c.pad_bound.ensures (c.lanes_between-digits.ensures i lt);
      most_low = λ i lt. ap (λ l. get_or l i 0) c.below-bounds.ensures.most_low ∙ c.lanes_between.ensures i lt;
      high = c.power_picks.ensures;
      low = c.power_picks-2.ensures;
      sign_is = refl;
      signed_is = refl;
      place_is = refl;
    })
