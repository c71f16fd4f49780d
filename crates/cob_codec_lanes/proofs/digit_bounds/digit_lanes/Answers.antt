use Rattle.std.proofs.Common.{◌≡◌, ◌≢◌, ℕ, ◌<◌, List, length, get_or, sym, ap, ◌∙◌, inl, inr, arith, get_or-set_other, get_or-set_same}
use Rattle.std.proofs.Math.ListN.{set, length-set}
use Rattle.std.proofs.lemmas.Bool.{cases_lt, cases_eq}
use Rattle.cob_codec_lanes.specs.Lanes.{is_pick}
use Rattle.cob_codec_lanes.specs.DigitLanes.{digit_lane}
use Rattle.cob_codec_lanes.proofs.digit_bounds.digit_lanes.Goals as goal

pub loop-lane-preserved : goal.loop-lane-preserved
loop-lane-preserved c =
    let lanes : List ℕ = c.loop-lane.lanes in
    let lane : ℕ = c.loop-lane.lane in
    let r : ℕ = c.digit_lane.result in
    let inside : lane < length lanes = omega (arith, c.loop-lane.invariant.long) in
    record {
      long = omega (arith, length-set lanes lane r, c.loop-lane.invariant.long);
      each = λ i lt.
          elim (cases_lt i lane) [
            | inl before ↦ (let ne : i ≢ lane = omega arith in get_or-set_other lanes lane i r 0 ne ∙ c.loop-lane.invariant.each i before)
            | inr ge ↦
                let same : i ≡ lane = omega arith in
                ap (λ k. get_or (set lanes lane r) k 0) same ∙ get_or-set_same lanes lane r 0 inside ∙ c.digit_lane.ensures.lane
                ∙ ap (λ k. digit_lane c.args.count k) (sym same)
          ];
      valid = λ i lt.
          elim (cases_eq i lane) [
            | inl same ↦ ap is_pick (ap (λ k. get_or (set lanes lane r) k 0) same ∙ get_or-set_same lanes lane r 0 inside) ∙ c.digit_lane.ensures.valid
            | inr ne ↦ ap is_pick (get_or-set_other lanes lane i r 0 ne) ∙ c.loop-lane.invariant.valid i lt
          ];
    }
