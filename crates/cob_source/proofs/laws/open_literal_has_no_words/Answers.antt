use Rattle.cob_source.proofs.Closed.{open_uncut}
use Rattle.cob_source.proofs.laws.open_literal_has_no_words.Goals as goal

pub returns : goal.returns
returns c = open_uncut
