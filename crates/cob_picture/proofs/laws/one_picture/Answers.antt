use Rattle.cob_picture.proofs.OnePicture.{one_picture}
use Rattle.cob_picture.proofs.laws.one_picture.Goals as goal

pub returns : goal.returns
returns c = one_picture
