use Rattle.std.proofs.Common.{inl, inr}
use Rattle.cob_report_show.specs.Values.{AreQuoted, IsNumberValue, IsValueShown}
use Rattle.cob_report_compare.proofs.PrintLemmas.{on_ok, took_so}
use Rattle.cob_report_compare.proofs.lines.put_value.Goals as goal

pub returns-then-is_number_item-clause-text : goal.returns-then-is_number_item-clause-text
returns-then-is_number_item-clause-text g c =
    on_ok c.put_number.result _ _ (took_so (IsNumberValue c.args.item.now c.args.bytes.now) (IsValueShown c.args.item.now c.args.bytes.now) _ _
    (λ part is. inl (c.if-is_number_item.ensures.yes, is))) c.put_number.ensures.text

pub returns-else-is_number_item-clause-text : goal.returns-else-is_number_item-clause-text
returns-else-is_number_item-clause-text g c =
    on_ok c.put_characters.result _ _ (took_so (AreQuoted c.args.bytes.now) (IsValueShown c.args.item.now c.args.bytes.now) _ _
    (λ part are. inr (λ number. let true_ = c.if-is_number_item.ensures.must number in absurd (cc), are))) c.put_characters.ensures.text
