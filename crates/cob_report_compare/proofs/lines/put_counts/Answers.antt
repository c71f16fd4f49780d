use Rattle.std.proofs.Common.{◌≡◌, ◌∙◌, ◌+◌, codes, refl}
use Rattle.std.specs.Prelude.{decimal}
use Rattle.cob_report_compare.specs.Lines.{counts_line}
use Rattle.cob_report_compare.proofs.PrintLemmas.{on_ok, seven_counts, took_is}
use Rattle.cob_report_compare.proofs.lines.put_counts.Goals as goal

pub returns-clause-text : goal.returns-clause-text
returns-clause-text g c =
    let k = c.args.counts in
    let pairs = k.same + k.equal + k.differ in
    let whole =
    seven_counts c.new-line.result.items c.push_count.new.line.items c.push_count-2.new.line.items c.push_count-3.new.line.items c.push_count-4.new.line.items c.push_count-5.new.line.items
    c.push_count-6.new.line.items c.push_count-7.new.line.items c.push.new.self.items (codes "left ") (decimal (pairs + k.left_alone)) (codes " right ") (decimal (pairs + k.right_alone))
    (codes ": equal ") (decimal (k.same + k.equal)) (codes ", of which ") (decimal k.equal) (codes " not byte for byte; differ ") (decimal k.differ) (codes "; left alone ") (decimal k.left_alone)
    (codes "; right alone ") (decimal k.right_alone) c.new-line.ensures c.push_count.ensures.text c.push_count-2.ensures.text c.push_count-3.ensures.text c.push_count-4.ensures.text
    c.push_count-5.ensures.text c.push_count-6.ensures.text c.push_count-7.ensures.text c.push.ensures.items in
    on_ok c.put_text.result _ _ (took_is (λ part. part ≡ counts_line k) c.as_slice.result.now (counts_line k) _ _ (c.as_slice.ensures.value ∙ whole) refl) c.put_text.ensures.text
