use Rattle.cob_edit.proofs.CodePageLemmas.{prints_characters}
use Rattle.cob_edit.proofs.laws.prints_characters.Goals as goal

pub returns : goal.returns
returns c = prints_characters
