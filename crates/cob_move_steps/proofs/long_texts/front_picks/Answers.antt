use Rattle.std.proofs.Common.{◌≡◌, ◌≢◌, ℕ, ◌+◌, ◌<◌, List, length, get_or, sym, ap, ◌∙◌, inl, inr, arith, get_or-set_other, get_or-set_same}
use Rattle.std.proofs.Math.ListN.{set, length-set}
use Rattle.std.proofs.lemmas.Bool.{cases_lt, cases_eq}
use Rattle.cob_codec_lanes.specs.Lanes.{is_pick}
use Rattle.cob_move_steps.specs.LongTexts.{front_lane}
use Rattle.cob_move_steps.specs.Texts.{cell_in}
use Rattle.cob_move_steps.proofs.long_texts.front_picks.Goals as goal

pub loop-at-preserved : goal.loop-at-preserved
loop-at-preserved c =
    let lanes : List ℕ = c.loop-at.lanes in
    let at : ℕ = c.loop-at.at in
    let r : ℕ = c.front_lane.result in
    let inside : at < length lanes = omega (arith, c.loop-at.invariant.long) in
    record {
      long = omega (arith, length-set lanes at r, c.loop-at.invariant.long);
      each = λ i lt.
          elim (cases_lt i at) [
            | inl before ↦ (let ne : i ≢ at = omega arith in get_or-set_other lanes at i r 0 ne ∙ c.loop-at.invariant.each i before)
            | inr ge ↦
                let same : i ≡ at = omega arith in
                ap (λ k. get_or (set lanes at r) k 0) same ∙ get_or-set_same lanes at r 0 inside ∙ c.front_lane.ensures.lane
                ∙ ap (front_lane c.args.count) c.cell_in.ensures
                ∙ ap (λ k. front_lane c.args.count (cell_in c.args.row.now (c.args.start + k))) (sym same)
          ];
      valid = λ i lt.
          elim (cases_eq i at) [
            | inl same ↦ ap is_pick (ap (λ k. get_or (set lanes at r) k 0) same ∙ get_or-set_same lanes at r 0 inside) ∙ c.front_lane.ensures.valid
            | inr ne ↦ ap is_pick (get_or-set_other lanes at i r 0 ne) ∙ c.loop-at.invariant.valid i lt
          ];
    }
