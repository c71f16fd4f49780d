use mir.Val.{SFits}
use Rattle.std.proofs.Common.{rules, ◌≡◌, ◌≢◌, ℕ, ◌-◌, ◌<◌, List, length, get_or, sym, ap, ◌∙◌, inl, inr, arith, pos, ◌-ℤ◌, w32, get_or-set_other, get_or-set_same}
use Rattle.std.proofs.Math.ListN.{set, length-set}
use Rattle.std.proofs.lemmas.Bool.{cases_lt, cases_eq}
use Rattle.std.proofs.lemmas.Int.{to_z-of_z}
use Rattle.cob_codec_lanes.specs.Lanes.{is_pick}
use Rattle.cob_codec_lanes.specs.Windows.{power_pick}
use Rattle.cob_codec_lanes.proofs.picks.power_picks.Goals as goal

pub loop-lane-preserved : goal.loop-lane-preserved
loop-lane-preserved c =
    let lanes : List ℕ = c.loop-lane.lanes in
    let lane : ℕ = c.loop-lane.lane in
    let r : ℕ = c.power_pick.result in
    let inside : lane < length lanes = omega arith in
    let fits : SFits w32 c.power_of.result = search rules in
    record {
      long = omega (arith, length-set lanes lane r);
      each = λ j lt.
          elim (cases_lt j lane) [
            | inl before ↦ (let ne : j ≢ lane = omega arith in get_or-set_other lanes lane j r 0 ne ∙ c.loop-lane.invariant.each j before)
            | inr ge ↦
                let same : j ≡ lane = omega arith in
                ap (λ k. get_or (set lanes lane r) k 0) same ∙ get_or-set_same lanes lane r 0 inside ∙ c.power_pick.ensures.lane
                ∙ ap (power_pick c.args.high c.args.by.now.start c.args.by.now.apart c.args.by.now.count) (to_z-of_z w32 c.power_of.result fits ∙ c.power_of.ensures ∙ ap (λ k. pos (c.args.wanted.digits - 1 - k) -ℤ c.args.wanted.shift) (sym same))
          ];
      rest = λ j ge lt. (let ne : j ≢ lane = omega arith in get_or-set_other lanes lane j r 0 ne ∙ c.loop-lane.invariant.rest j (omega arith) lt);
      valid = λ j lt.
          elim (cases_eq j lane) [
            | inl same ↦ ap is_pick (ap (λ k. get_or (set lanes lane r) k 0) same ∙ get_or-set_same lanes lane r 0 inside) ∙ c.power_pick.ensures.valid
            | inr ne ↦ ap is_pick (get_or-set_other lanes lane j r 0 ne) ∙ c.loop-lane.invariant.valid j lt
          ];
    }
