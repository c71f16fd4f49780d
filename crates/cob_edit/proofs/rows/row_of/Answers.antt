use Rattle.std.proofs.Common.{sym, ap, ◌∙◌, ◌≡◌, ◌≤◌, count_by, subst, true}
use Rattle.cob_picture.specs.Counts.{size}
use Rattle.cob_picture.specs.Positions.{written_out}
use Rattle.cob_edit.specs.Places.{is_digit, bytes_of}
use Rattle.cob_edit.specs.Pictured.{places}
use Rattle.cob_edit.specs.Rows.{row_bytes, zeros_tell}
use Rattle.cob_edit.proofs.PlaceLemmas.{digits_same, few_digits, bytes_same}
use Rattle.cob_edit.proofs.TellingLemmas.{pictures_tell}
use Rattle.cob_edit.proofs.RowLemmas.{row_edited}
use Rattle.cob_edit.proofs.rows.row_of.Goals as goal

pub row_at-requires-clause-digits : goal.row_at-requires-clause-digits
row_at-requires-clause-digits c =
    c.from-digits.ensures ∙ c.digits.ensures.value ∙ sym (digits_same c.args.picture.now.positions)
    ∙ sym (ap (λ ps. count_by is_digit ps) (c.as_slice-places.ensures.value ∙ c.requires.places))

pub row_at-requires-clause-few : goal.row_at-requires-clause-few
row_at-requires-clause-few c =
    let same = c.as_slice-places.ensures.value ∙ c.requires.places ∙ ap places c.runs-symbols.ensures.positions in
    subst (λ ps. count_by is_digit ps ≤ 31) (sym same) (few_digits c.args.picture.now.category (written_out c.runs-symbols.result.now) c.runs-symbols.ensures.picture)

pub returns-clause-text : goal.returns-clause-text
returns-clause-text c = λ negative ds valid count zeros.
    let same = c.as_slice-places.ensures.value ∙ c.requires.places in
    let many = c.from-digits.ensures ∙ c.digits.ensures.value in
    row_edited c.args.picture.now c.args.blank negative c.shows_minus-shows.result ds (row_bytes ds negative c.row_at.result.items) c.as_slice-places.result.now c.from-digits.result c.args.zeros
    same valid count many zeros c.shows_minus-shows.ensures
    (c.row_at.ensures.text ds negative (count ∙ sym (digits_same c.args.picture.now.positions) ∙ sym (ap (λ ps. count_by is_digit ps) same)) zeros)

pub returns-clause-count : goal.returns-clause-count
returns-clause-count c =
    let same = c.as_slice-places.ensures.value ∙ c.requires.places ∙ ap places c.runs-symbols.ensures.positions in
    c.row_at.ensures.count ∙ ap bytes_of same ∙ bytes_same c.args.picture.now.category (written_out c.runs-symbols.result.now) ∙ ap size (sym c.runs-symbols.ensures.positions)

pub row_at-requires-clause-told : goal.row_at-requires-clause-told
row_at-requires-clause-told c =
    let same = c.as_slice-places.ensures.value ∙ c.requires.places ∙ ap places c.runs-symbols.ensures.positions in
    subst (λ ps. zeros_tell ps ≡ true) (sym same) (pictures_tell c.args.picture.now.category (written_out c.runs-symbols.result.now) c.runs-symbols.ensures.picture c.requires.shows)
