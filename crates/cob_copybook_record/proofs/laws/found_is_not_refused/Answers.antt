use Rattle.cob_copybook_record.proofs.StretchLemmas.{found_is_not_refused}
use Rattle.cob_copybook_record.proofs.laws.found_is_not_refused.Goals as goal

pub returns : goal.returns
returns c = λ name ws own why x refused. found_is_not_refused name ws own why x refused
