use Rattle.std.proofs.Common.{◌≡◌, ◌≢◌, ℕ, ◌<◌, List, length, get_or, sym, ap, ◌∙◌, inl, inr, arith, get_or-set_other, get_or-set_same}
use Rattle.std.proofs.Math.ListN.{set, length-set}
use Rattle.std.proofs.lemmas.Bool.{cases_lt, cases_eq}
use Rattle.cob_codec_lanes.specs.Lanes.{is_pick}
use Rattle.cob_codec_lanes.specs.Windows.{digit_pick, half_of_byte}
use Rattle.cob_codec_lanes.proofs.picks.digit_picks.Goals as goal

pub loop-byte-preserved : goal.loop-byte-preserved
loop-byte-preserved c =
    let lanes : List ℕ = c.loop-byte.lanes in
    let byte : ℕ = c.loop-byte.byte in
    let r : ℕ = c.digit_pick.result in
    let inside : byte < length lanes = omega arith in
    record {
      long = omega (arith, length-set lanes byte r);
      each = λ i lt.
          elim (cases_lt i byte) [
            | inl before ↦ (let ne : i ≢ byte = omega arith in get_or-set_other lanes byte i r 0 ne ∙ c.loop-byte.invariant.each i before)
            | inr ge ↦
                let same : i ≡ byte = omega arith in
                ap (λ k. get_or (set lanes byte r) k 0) same ∙ get_or-set_same lanes byte r 0 inside ∙ c.digit_pick.ensures.lane
                ∙ ap (digit_pick c.args.by.now.start c.args.by.now.apart c.args.by.now.count) (c.half_of_byte.ensures ∙ ap (half_of_byte c.args.high) (sym same))
          ];
      valid = λ i lt.
          elim (cases_eq i byte) [
            | inl same ↦ ap is_pick (ap (λ k. get_or (set lanes byte r) k 0) same ∙ get_or-set_same lanes byte r 0 inside) ∙ c.digit_pick.ensures.valid
            | inr ne ↦ ap is_pick (get_or-set_other lanes byte i r 0 ne) ∙ c.loop-byte.invariant.valid i lt
          ];
    }
