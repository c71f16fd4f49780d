use Rattle.std.proofs.Common.{◌≡◌, ◌≤◌, ◌∙◌, ℕ, List, take, ap, subst, arith, get_or-take, length-take-le}
use Rattle.cob_edit.specs.declared.cell.TextCell.{TextCell}
use Rattle.cob_edit.specs.declared.cell.TextCell.TheVariants.{Same}
use Rattle.cob_move_steps.specs.LongNumerals.{numeral_cell}
use Rattle.cob_move_steps.specs.LongTexts.{IsLongTextOf}
use Rattle.cob_move_steps.specs.Numerals.{numeral_count}
use Rattle.cob_move_steps.proofs.LongNumeralLemmas.{long_numerals_made}
use Rattle.cob_move_steps.proofs.long_numerals_writing.long_numerals_text.Goals as goal

pub returns : goal.returns
returns c =
    let item = c.args.item.now in
    let row : List TextCell = c.numeral_row-row.result in
    let count : ℕ = c.numeral_count-count.result in
    let many : count ≡ numeral_count item = c.numeral_count-count.ensures in
    let room : count ≤ 48 = omega (arith, many, c.requires.fits) in
    let cut : List TextCell = take count row in
    long_numerals_made item cut c.long_text_of.result c.requires.few c.requires.fits
    (length-take-le count row (omega (arith, room, c.numeral_row-row.ensures.long)) ∙ many)
    (λ k lt.
    get_or-take count row k (Same 0) (omega (arith, lt, many))
    ∙ c.numeral_row-row.ensures.each k (omega (arith, lt, many, room))
    ∙ ap (λ n. numeral_cell n k) (c.from.ensures ∙ c.digits-digits.ensures.value))
    (subst (λ n. IsLongTextOf n cut c.long_text_of.result) c.digits-digits.ensures.value c.long_text_of.ensures)
