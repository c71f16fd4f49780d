use Rattle.std.proofs.Common.{inl, inr, refl, arith}
use Rattle.cob_report_compare.specs.Headings.{heading_text}
use Rattle.cob_report_compare.specs.Lines.{AreComparedRecordLines, IfTold}
use Rattle.cob_report_compare.proofs.PrintLemmas.{on_ok, took_none, took_so}
use Rattle.cob_report_compare.proofs.lines.tell_comparison.Goals as goal

pub returns-then-told-most-clause-text : goal.returns-then-told-most-clause-text
returns-then-told-most-clause-text g c =
    let is = AreComparedRecordLines (heading_text c.args.heading.now) c.args.left.now c.args.right.now c.args.comparison.now in
    on_ok c.put_comparison.result _ _ (took_so is (IfTold c.args.most c.args.told is) _ _ (λ part so. inl (c.if-told-most.true, so))) c.put_comparison.ensures.text

pub returns-else-told-most-clause-text : goal.returns-else-told-most-clause-text
returns-else-told-most-clause-text g c =
    took_none (IfTold c.args.most c.args.told (AreComparedRecordLines (heading_text c.args.heading.now) c.args.left.now c.args.right.now c.args.comparison.now)) (g.W.Sink.taken c.args.sink.now)
    (inr (omega (arith, c.if-told-most.false), refl))
