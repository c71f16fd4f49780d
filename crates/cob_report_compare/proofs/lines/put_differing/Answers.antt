use Rattle.cob_report_compare.specs.Headings.{heading_text}
use Rattle.cob_report_compare.proofs.PrintLemmas.{headed, on_ok}
use Rattle.cob_report_compare.proofs.lines.put_differing.Goals as goal

pub returns-clause-text : goal.returns-clause-text
returns-clause-text g c =
    on_ok c.put_elements.result _ _ (λ last. headed (heading_text c.args.heading.now) _ _ _ _ c.in_ok-put_heading.ensures.text last) c.put_elements.ensures.text
