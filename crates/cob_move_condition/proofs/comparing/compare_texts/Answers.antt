use Rattle.std.proofs.Common.{◌∙◌, ℕ, List, false, ap, sym, subst}
use Rattle.std.specs.Ordering.{ordering_reverse}
use Rattle.cob_move_condition.specs.Compared.{GivesBeside}
use Rattle.cob_move_condition.proofs.TextLemmas.{text_reversed}
use Rattle.cob_move_condition.proofs.comparing.compare_texts.Goals as goal

pub returns-in-Constant-Entry : goal.returns-in-Constant-Entry
returns-in-Constant-Entry c =
    let (coded, gives, is) = c.constant_order-in-Constant-Entry.ensures in
    let text : List ℕ = c.as_slice-in-Constant-Entry.result.now in
    let beside : GivesBeside false c.in-Constant-Entry.kind.now c.in-Constant-Entry.bytes.now c.in-Constant-Entry.reading text =
    subst (GivesBeside false c.in-Constant-Entry.kind.now c.in-Constant-Entry.bytes.now c.in-Constant-Entry.reading) (sym c.as_slice-in-Constant-Entry.ensures)
    c.entry_beside-in-Constant-Entry.ensures in
    rw (c.in-Constant-Entry.is-0, c.in-Constant-Entry.is-1) (coded, text, (gives, beside), c.reversed.ensures ∙ ap ordering_reverse is ∙ sym (text_reversed coded text))
