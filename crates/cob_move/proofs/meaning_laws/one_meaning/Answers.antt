use Rattle.cob_move.proofs.OneLemmas.{one_meaning}
use Rattle.cob_move.proofs.meaning_laws.one_meaning.Goals as goal

pub returns : goal.returns
returns c = one_meaning c.one_named.ensures
