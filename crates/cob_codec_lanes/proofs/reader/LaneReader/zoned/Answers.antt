use Rattle.std.proofs.Common.{◌≡◌, ◌-◌, ◌+◌, ℕ, refl, ap, get_or, ◌∙◌, arith}
use Rattle.std.proofs.lemmas.List.{get_or-replicate}
use Rattle.cob_codec_lanes.proofs.HalfLemmas.{lane_from}
use Rattle.cob_codec_lanes.proofs.ZonedReading.{zoned_reader}
use Rattle.cob_codec_lanes.proofs.reader.LaneReader.zoned.Goals as goal

pub returns : goal.returns
returns c =
    let s = c.args.shape.now in
    let n : ℕ = c.from-count.result in
    let e : n ≡ s.digits = c.from-count.ensures in
    zoned_reader n s.digits s.signed s.leading c.args.wanted.digits c.args.wanted.shift _ e (record {
      some = omega (arith, e, s.some);
      most = omega (arith, e, c.requires);
      room = c.args.wanted.most;
      least_high = λ i lt. ap (λ l. get_or l i 0) c.above-bounds.ensures.least_high ∙ c.with_lane-least_high.ensures i lt
          ∙ lane_from i _ _ 0 0 _ _ (ap (λ p. 16 - n + p) c.sign_place.ensures.place) refl (c.lanes_between-zones.ensures i lt);
      most_high = λ i lt. ap (λ l. get_or l i 0) c.above-bounds.ensures.most_high ∙ get_or-replicate 16 i 15 0 lt;
      most_low = λ i lt. ap (λ l. get_or l i 0) c.above-bounds.ensures.most_low ∙ c.lanes_between.ensures i lt;
      high = c.power_picks.ensures;
      low = c.power_picks-2.ensures;
      sign_is = refl;
      signed_is = refl;
      place_is = ap (λ p. 16 - n + p) c.sign_place.ensures.place;
    })
