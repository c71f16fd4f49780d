use Rattle.cob_report_compare.proofs.PrintLemmas.{on_ok, unknown}
use Rattle.cob_report_compare.proofs.lines.put_unknown.Goals as goal

pub returns-clause-text : goal.returns-clause-text
returns-clause-text g c = on_ok c.put_digits.result _ _ (unknown c.args.bytes.now _ _ _ c.in_ok-put_text.ensures.text) c.put_digits.ensures.text
