use Rattle.std.proofs.Common.{◌≡◌, ◌≢◌, ℕ, ◌+◌, ◌<◌, List, length, get_or, sym, ap, subst, ◌∙◌, inl, inr, arith, get_or-set_other, get_or-set_same}
use Rattle.std.proofs.Math.ListN.{set, length-set}
use Rattle.std.proofs.lemmas.Bool.{cases_lt}
use Rattle.cob_move_steps.specs.Texts.{added_to, cell_in}
use Rattle.cob_move_steps.proofs.texts.added_in.Goals as goal

pub loop-at-preserved : goal.loop-at-preserved
loop-at-preserved c =
    let added : List ℕ = c.loop-at.added in
    let at : ℕ = c.loop-at.at in
    let r : ℕ = c.added_to.result in
    let inside : at < length added = omega (arith, c.loop-at.invariant.long) in
    let here : r ≡ added_to c.args.negative (cell_in c.args.row.now (c.args.start + at)) = c.added_to.ensures.value ∙ ap (added_to c.args.negative) c.cell_in.ensures in
    record {
      long = omega (arith, length-set added at r, c.loop-at.invariant.long);
      each = λ i lt.
          elim (cases_lt i at) [
            | inl before ↦ (let ne : i ≢ at = omega arith in get_or-set_other added at i r 0 ne ∙ c.loop-at.invariant.each i before)
            | inr ge ↦
                let same : i ≡ at = omega arith in
                ap (λ k. get_or (set added at r) k 0) same ∙ get_or-set_same added at r 0 inside ∙ here ∙ ap (λ k. added_to c.args.negative (cell_in c.args.row.now (c.args.start + k))) (sym same)
          ];
      small = λ i lt.
          elim (cases_lt i at) [
            | inl before ↦ c.loop-at.invariant.small i before
            | inr ge ↦
                let same : at ≡ i = omega arith in
                subst (λ k. added_to c.args.negative (cell_in c.args.row.now (c.args.start + k)) < 256) same (subst (λ b. b < 256) here c.added_to.ensures.small)
          ];
    }
