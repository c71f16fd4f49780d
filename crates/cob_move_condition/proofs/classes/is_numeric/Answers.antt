use Rattle.std.proofs.Common.{◌≡◌, true, ◌∙◌, ap, sym}
use Rattle.cob_move_receive.specs.Sent.{sent}
use Rattle.cob_move_condition.specs.Comparable.{is_number_operand, kind_of_sent}
use Rattle.cob_move_condition.proofs.ClassLemmas.{numeric_entry}
use Rattle.cob_move_condition.proofs.classes.is_numeric.Goals as goal

pub returns-then-is_number_operand : goal.returns-then-is_number_operand
returns-then-is_number_operand c =
    let number : is_number_operand (kind_of_sent (sent c.args.given.now)) ≡ true =
    ap is_number_operand (sym c.kind_of.ensures) ∙ sym c.is_number_operand.ensures ∙ c.if-is_number_operand.true in
    rw c.in-Entry.is (numeric_entry c.in-Entry.kind.now c.in-Entry.bytes.now c.in-Entry.reading c.number_of_operand.result c.is_some.result c.is_some.ensures (rw c.in-Entry.is at number)
    (rw c.as_it_stands.ensures at c.number_of_operand.ensures.found) (rw c.as_it_stands.ensures at c.number_of_operand.ensures.only))
