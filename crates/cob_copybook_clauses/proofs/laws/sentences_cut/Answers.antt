use Rattle.cob_copybook_clauses.proofs.CutLemmas.{cut}
use Rattle.cob_copybook_clauses.proofs.laws.sentences_cut.Goals as goal

pub returns : goal.returns
returns c = cut
