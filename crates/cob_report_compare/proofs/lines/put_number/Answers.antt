use Rattle.std.proofs.Common.{inl, inr}
use Rattle.cob_report_show.specs.Values.{AreUnknown, IsNumberValue}
use Rattle.cob_report_compare.proofs.PrintLemmas.{on_ok, took_is, took_so}
use Rattle.cob_report_compare.proofs.lines.put_number.Goals as goal

pub returns-in-Some-clause-text : goal.returns-in-Some-clause-text
returns-in-Some-clause-text g c =
    on_ok c.put_text.result _ _ (took_is (IsNumberValue c.args.item.now c.args.bytes.now) _ c.in-Some.text.items _ _ c.as_slice.ensures.value (inl c.in-Some.ensures.found)) c.put_text.ensures.text

pub returns-in-None-clause-text : goal.returns-in-None-clause-text
returns-in-None-clause-text g c =
    on_ok c.put_unknown.result _ _ (took_so (AreUnknown c.args.bytes.now) (IsNumberValue c.args.item.now c.args.bytes.now) _ _ (λ part are. inr (c.in-None.ensures.none, are))) c.put_unknown.ensures.text
