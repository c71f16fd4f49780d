use Rattle.std.proofs.Common.{sym, subst, ◌∙◌, ap, length}
use Rattle.cob_edit.specs.Rows.{IsRowOf}
use Rattle.cob_move_steps.specs.LongTexts.{IsLongTextOf}
use Rattle.cob_move_steps.proofs.LongTextLemmas.{long_padded, long_text_made}
use Rattle.cob_move_steps.proofs.long_texts.long_text_for.Goals as goal

pub returns-clause-text : goal.returns-clause-text
returns-clause-text c =
    let item = c.args.item.now in
    long_text_made item c.args.zeros c.as_slice.result.now c.long_text_of.result c.requires.item.few c.requires.item.fits
    (c.requires.item.plainly.bytes ∙ sym (ap length c.as_slice.ensures.value ∙ c.row_of-row.ensures.count))
    (subst (λ n. IsLongTextOf n c.as_slice.result.now c.long_text_of.result) c.digits.ensures.value c.long_text_of.ensures)
    (subst (λ xs. IsRowOf item.picture item.blank c.args.zeros xs) (sym c.as_slice.ensures.value) c.row_of-row.ensures.text)

pub returns-clause-padded : goal.returns-clause-padded
returns-clause-padded c =
    let item = c.args.item.now in
    long_padded item c.as_slice.result.now c.long_text_of.result c.requires.item.fits
    (c.requires.item.plainly.bytes ∙ sym (ap length c.as_slice.ensures.value ∙ c.row_of-row.ensures.count))
    (subst (λ n. IsLongTextOf n c.as_slice.result.now c.long_text_of.result) c.digits.ensures.value c.long_text_of.ensures)
