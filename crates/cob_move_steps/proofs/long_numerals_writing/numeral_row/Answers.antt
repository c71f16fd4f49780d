use Rattle.std.proofs.Common.{◌≡◌, ◌≢◌, ℕ, ◌<◌, List, length, get_or, sym, ap, ◌∙◌, inl, inr, arith, get_or-set_other, get_or-set_same}
use Rattle.std.proofs.Math.ListN.{set, length-set}
use Rattle.std.proofs.lemmas.Bool.{cases_lt}
use Rattle.cob_edit.specs.declared.cell.TextCell.{TextCell}
use Rattle.cob_edit.specs.declared.cell.TextCell.TheVariants.{Same}
use Rattle.cob_move_steps.specs.LongNumerals.{numeral_cell}
use Rattle.cob_move_steps.proofs.long_numerals_writing.numeral_row.Goals as goal

pub loop-at-preserved : goal.loop-at-preserved
loop-at-preserved c =
    let row : List TextCell = c.loop-at.row in
    let at : ℕ = c.loop-at.at in
    let r : TextCell = c.numeral_cell.result in
    let inside : at < length row = omega (arith, c.loop-at.invariant.long) in
    record {
      long = omega (arith, length-set row at r, c.loop-at.invariant.long);
      each = λ i lt.
          elim (cases_lt i at) [
            | inl before ↦ (let ne : i ≢ at = omega arith in get_or-set_other row at i r (Same 0) ne ∙ c.loop-at.invariant.each i before)
            | inr ge ↦
                let same : i ≡ at = omega arith in
                ap (λ k. get_or (set row at r) k (Same 0)) same ∙ get_or-set_same row at r (Same 0) inside ∙ c.numeral_cell.ensures ∙ ap (λ k. numeral_cell c.args.digits k) (sym same)
          ];
    }
