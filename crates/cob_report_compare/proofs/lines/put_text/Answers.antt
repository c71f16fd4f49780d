use Rattle.cob_report_compare.proofs.PrintLemmas.{put_whole}
use Rattle.cob_report_compare.proofs.lines.put_text.Goals as goal

pub returns-clause-text : goal.returns-clause-text
returns-clause-text g c = put_whole c.args.text.now c.put_record.result _ _ c.put_record.ensures.frame
