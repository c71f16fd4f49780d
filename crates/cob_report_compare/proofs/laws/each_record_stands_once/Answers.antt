use Rattle.cob_report_compare.proofs.MergeLemmas.{lefts_are, rights_are}
use Rattle.cob_report_compare.proofs.laws.each_record_stands_once.Goals as goal

pub returns : goal.returns
returns c = λ es. (lefts_are es, rights_are es)
