use Rattle.cob_picture.proofs.OnePicture.{breaks_no_rule}
use Rattle.cob_picture.proofs.laws.breaks_no_rule.Goals as goal

pub returns : goal.returns
returns c = breaks_no_rule
