use Rattle.cob_edit.proofs.EditedLemmas.{sign_of_picture}
use Rattle.cob_edit.proofs.laws.signs_are_shown.Goals as goal

pub returns : goal.returns
returns c = sign_of_picture
