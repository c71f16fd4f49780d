use Rattle.cob_edit.proofs.PicturedLemmas.{some_text}
use Rattle.cob_edit.proofs.laws.some_text.Goals as goal

pub returns : goal.returns
returns c = some_text
