use Rattle.cob_report_explain.proofs.ReadLemmas.{misfit_is_read}
use Rattle.cob_report_explain.proofs.reading.input_record.Goals as goal

pub returns-in-Err-judge-clause-kind : goal.returns-in-Err-judge-clause-kind
returns-in-Err-judge-clause-kind g c = misfit_is_read _ _ _ _ c.in-Err-judge.ensures.misfit
