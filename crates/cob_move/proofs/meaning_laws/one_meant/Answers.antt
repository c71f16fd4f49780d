use Rattle.cob_move.proofs.OneLemmas.{one_meant}
use Rattle.cob_move.proofs.meaning_laws.one_meant.Goals as goal

pub returns : goal.returns
returns c = one_meant c.one_meaning.ensures
