use Rattle.std.proofs.Common.{inl, inr, refl, arith}
use Rattle.cob_report_compare.specs.Headings.{heading_text}
use Rattle.cob_report_compare.specs.Lines.{IfTold, IsAloneLine}
use Rattle.cob_report_compare.proofs.PrintLemmas.{on_ok, took_none, took_so}
use Rattle.cob_report_compare.proofs.lines.tell_alone.Goals as goal

pub returns-then-told-most-clause-text : goal.returns-then-told-most-clause-text
returns-then-told-most-clause-text g c =
    let is = IsAloneLine c.args.side (heading_text c.args.heading.now) in
    on_ok c.put_alone.result _ _ (took_so is (IfTold c.args.most c.args.told is) _ _ (λ part so. inl (c.if-told-most.true, so))) c.put_alone.ensures.text

pub returns-else-told-most-clause-text : goal.returns-else-told-most-clause-text
returns-else-told-most-clause-text g c =
    took_none (IfTold c.args.most c.args.told (IsAloneLine c.args.side (heading_text c.args.heading.now))) (g.W.Sink.taken c.args.sink.now) (inr (omega (arith, c.if-told-most.false), refl))
