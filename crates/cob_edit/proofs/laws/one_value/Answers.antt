use Rattle.cob_edit.proofs.PicturedLemmas.{one_value}
use Rattle.cob_edit.proofs.laws.one_value.Goals as goal

pub returns : goal.returns
returns c = one_value
