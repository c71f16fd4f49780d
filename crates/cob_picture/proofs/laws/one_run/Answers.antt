use Rattle.cob_picture.proofs.RunLaws.{one_run}
use Rattle.cob_picture.proofs.laws.one_run.Goals as goal

pub returns : goal.returns
returns c = one_run
