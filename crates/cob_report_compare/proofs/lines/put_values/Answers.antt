use Rattle.cob_report_compare.proofs.PrintLemmas.{both_values, on_ok}
use Rattle.cob_report_compare.proofs.lines.put_values.Goals as goal

pub returns-clause-text : goal.returns-clause-text
returns-clause-text g c =
    on_ok c.put_text-2.result _ _
    (λ last. both_values c.args.item.now c.args.left.now c.args.right.now _ _ _ _ _ c.in_ok-put_value.ensures.text c.in_ok-put_text.ensures.text c.in_ok-put_value-2.ensures.text last)
    c.put_text-2.ensures.text
