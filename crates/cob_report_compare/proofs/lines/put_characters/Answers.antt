use Rattle.cob_report_compare.proofs.PrintLemmas.{on_ok, quoted}
use Rattle.cob_report_compare.proofs.lines.put_characters.Goals as goal

pub returns-clause-text : goal.returns-clause-text
returns-clause-text g c =
    on_ok c.put_text-2.result _ _ (λ last. quoted c.args.bytes.now _ _ _ _ c.in_ok-put_text.ensures.text c.in_ok-put_shown.ensures.text last) c.put_text-2.ensures.text
