use Rattle.std.proofs.Common.{inl, inr}
use Rattle.cob_report_show.specs.Values.{AreQuoted, IsNumberValue, IsValueShown}
use Rattle.cob_report_show.proofs.PieceLemmas.{lines_as}
use Rattle.cob_report_show.proofs.values.put_value.Goals as goal

pub returns-then-is_number_item-clause-lines : goal.returns-then-is_number_item-clause-lines
returns-then-is_number_item-clause-lines g c =
    lines_as (IsNumberValue c.args.item.now c.args.bytes.now) (IsValueShown c.args.item.now c.args.bytes.now) c.args.line.now.items c.args.sent.now c.put_number.new.sent c.put_number.result _ _
    (λ value is. inl (c.if-is_number_item.ensures.yes, is)) c.put_number.ensures.lines

pub returns-else-is_number_item-clause-lines : goal.returns-else-is_number_item-clause-lines
returns-else-is_number_item-clause-lines g c =
    lines_as (AreQuoted c.args.bytes.now) (IsValueShown c.args.item.now c.args.bytes.now) c.args.line.now.items c.args.sent.now c.put_characters.new.sent c.put_characters.result _ _
    (λ value are. inr (λ number. let true_ = c.if-is_number_item.ensures.must number in absurd (cc), are)) c.put_characters.ensures.lines
