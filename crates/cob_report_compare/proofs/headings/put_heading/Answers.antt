use Rattle.cob_report_compare.proofs.PrintLemmas.{heading_printed, on_ok}
use Rattle.cob_report_compare.specs.Headings.{heading_numbers}
use Rattle.cob_report_compare.proofs.headings.put_heading.Goals as goal

pub returns-clause-text : goal.returns-clause-text
returns-clause-text g c =
    on_ok c.put_keys.result _ _ (λ shown. heading_printed (heading_numbers c.args.heading.now.numbers) _ _ _ _ _ (rw (c.as_slice.ensures.value, c.numbers_line.ensures.text) at c.in_ok-put_text.ensures.text) shown)
    c.put_keys.ensures.text
