use Rattle.std.proofs.Common.{◌≡◌, ◌+◌, ◌*◌, ℕ, true, false, subst, refl, ap, get_or, ◌∙◌, arith}
use Rattle.std.proofs.lemmas.List.{get_or-replicate}
use Rattle.cob_codec_lanes.specs.Windows.{lane_between, first_lane, ArePowerPicks}
use Rattle.cob_codec_lanes.proofs.SeparateReading.{separate_reader}
use Rattle.cob_codec_lanes.proofs.reader.LaneReader.separate.Goals as goal

pub returns : goal.returns
returns c =
    let s = c.args.shape.now in
    let w = c.args.wanted in
    let n : ℕ = c.from-count.result in
    let e : n ≡ s.digits = c.from-count.ensures in
    let f : c.first_lane-first.result ≡ first_lane s.leading n = c.first_lane-first.ensures.lane in
    separate_reader n s.digits s.leading c.args.wanted.digits c.args.wanted.shift _ e (record {
      most = omega (arith, e, c.requires);
      room = w.most;
      least_high = λ i lt. ap (λ l. get_or l i 0) c.above-bounds.ensures.least_high ∙ c.lanes_between-least_high.ensures i lt ∙ ap (λ k. lane_between k (k + n) 15 0 i) f;
      most_high = λ i lt. ap (λ l. get_or l i 0) c.above-bounds.ensures.most_high ∙ get_or-replicate 16 i 15 0 lt;
      most_low = λ i lt. ap (λ l. get_or l i 0) c.above-bounds.ensures.most_low ∙ c.lanes_between-most_low.ensures i lt ∙ ap (λ k. lane_between k (k + n) 9 15 i) f;
      high = subst (λ k. ArePowerPicks true (2 * k + 1) 2 n w.digits w.shift c.power_picks.result.lanes) f c.power_picks.ensures;
      low = subst (λ k. ArePowerPicks false (2 * k + 1) 2 n w.digits w.shift c.power_picks-2.result.lanes) f c.power_picks-2.ensures;
      sign_is = refl;
      place_is = c.sign_lane-place.ensures.lane;
    })
