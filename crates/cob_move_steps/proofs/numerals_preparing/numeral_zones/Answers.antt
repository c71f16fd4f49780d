use Rattle.std.proofs.Common.{◌≡◌, ◌≢◌, ℕ, ◌<◌, List, length, get_or, sym, ap, ◌∙◌, inl, inr, arith, get_or-set_other, get_or-set_same}
use Rattle.std.proofs.Math.ListN.{set, length-set}
use Rattle.std.proofs.lemmas.Bool.{cases_lt}
use Rattle.cob_move_steps.specs.Numerals.{numeral_zone}
use Rattle.cob_move_steps.proofs.numerals_preparing.numeral_zones.Goals as goal

pub loop-at-preserved : goal.loop-at-preserved
loop-at-preserved c =
    let zones : List ℕ = c.loop-at.zones in
    let at : ℕ = c.loop-at.at in
    let r : ℕ = c.numeral_zone.result in
    let inside : at < length zones = omega (arith, c.loop-at.invariant.long) in
    record {
      long = omega (arith, length-set zones at r, c.loop-at.invariant.long);
      each = λ i lt.
          elim (cases_lt i at) [
            | inl before ↦ (let ne : i ≢ at = omega arith in get_or-set_other zones at i r 0 ne ∙ c.loop-at.invariant.each i before)
            | inr ge ↦
                let same : i ≡ at = omega arith in
                ap (λ k. get_or (set zones at r) k 0) same ∙ get_or-set_same zones at r 0 inside ∙ c.numeral_zone.ensures
                ∙ ap (λ k. numeral_zone c.args.count k) (sym same)
          ];
    }
