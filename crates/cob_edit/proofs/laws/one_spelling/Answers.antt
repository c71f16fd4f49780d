use Rattle.cob_edit.proofs.CharacterLemmas.{one_spelling}
use Rattle.cob_edit.proofs.laws.one_spelling.Goals as goal

pub returns : goal.returns
returns c = one_spelling
