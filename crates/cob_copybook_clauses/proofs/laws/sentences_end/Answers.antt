use Rattle.cob_copybook_clauses.proofs.CutLemmas.{ends}
use Rattle.cob_copybook_clauses.proofs.laws.sentences_end.Goals as goal

pub returns : goal.returns
returns c = ends
