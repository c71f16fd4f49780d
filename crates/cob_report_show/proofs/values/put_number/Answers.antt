use Rattle.std.proofs.Common.{inl, inr}
use Rattle.cob_report_show.specs.Lines.{IsLineWith}
use Rattle.cob_report_show.specs.Values.{AreUnknown, IsNumberValue}
use Rattle.cob_report_show.proofs.SentLemmas.{put_is}
use Rattle.cob_report_show.proofs.PieceLemmas.{lines_as, value_behind}
use Rattle.cob_report_show.proofs.values.put_number.Goals as goal

pub returns-in_default-clause-lines : goal.returns-in_default-clause-lines
returns-in_default-clause-lines g c =
    lines_as (AreUnknown c.args.bytes.now) (IsNumberValue c.args.item.now c.args.bytes.now) c.args.line.now.items c.args.sent.now c.put_unknown.new.sent c.put_unknown.result _ _
    (λ value are. inr (c.in_default.ensures.none, are)) c.put_unknown.ensures.lines

pub returns-clause-lines : goal.returns-clause-lines
returns-clause-lines g c =
    put_is (IsLineWith c.args.line.now.items (IsNumberValue c.args.item.now c.args.bytes.now)) c.as_slice-2.result.now c.put.result _ _ c.args.sent.now c.put.new.sent (
      c.in-Some.text.items,
      inl c.in-Some.ensures.found,
      value_behind c.args.line.now.items c.push_text.new.line.items c.push.new.self.items c.as_slice-2.result.now c.in-Some.text.items (rw c.as_slice.ensures.value at c.push_text.ensures.text) c.push.ensures.items c.as_slice-2.ensures.value,
    )
    c.put.ensures.lines
