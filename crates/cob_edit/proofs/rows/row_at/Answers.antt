use Rattle.std.proofs.Common.{◌&&◌, sym, ◌∙◌}
use Rattle.cob_edit.proofs.RowLemmas.{text_empty, text_shown}
use Rattle.cob_edit.specs.Rows.{row_bytes}
use Rattle.cob_edit.proofs.rows.row_at.Goals as goal

pub returns-then-show_nothing-clause-text : goal.returns-then-show_nothing-clause-text
returns-then-show_nothing-clause-text c = λ ds negative long front.
    text_empty c.args.places.now c.args.blank (negative && c.args.shows) ds (row_bytes ds negative c.empty_row.result.items)
    (sym (c.show_nothing.ensures ds (long ∙ sym c.requires.digits) front) ∙ c.if-show_nothing.true) (c.empty_row.ensures.text ds negative)

pub returns-clause-text : goal.returns-clause-text
returns-clause-text c = λ ds negative long front.
    text_shown c.args.places.now c.args.blank (negative && c.args.shows) ds (row_bytes ds negative c.printed_row.result.items) c.cut_after-cut.result
    (sym (c.show_nothing.ensures ds (long ∙ sym c.requires.digits) front) ∙ c.if-show_nothing.false) (c.cut_after-cut.ensures.cut ds long front) (c.printed_row.ensures.text ds negative)
