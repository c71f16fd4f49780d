use Rattle.cob_convert.proofs.AsideRun.{rejected_again}
use Rattle.cob_convert.proofs.aside_laws.rejected_again.Goals as goal

pub returns : goal.returns
returns c = rejected_again c.alone_is_one_record.ensures
