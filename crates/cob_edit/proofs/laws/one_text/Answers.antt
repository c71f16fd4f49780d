use Rattle.cob_edit.proofs.PicturedLemmas.{one_text}
use Rattle.cob_edit.proofs.laws.one_text.Goals as goal

pub returns : goal.returns
returns c = one_text
