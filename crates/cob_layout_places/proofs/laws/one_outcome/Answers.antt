use Rattle.cob_layout_places.proofs.CountLemmas as law
use Rattle.cob_layout_places.proofs.laws.one_outcome.Goals as goal

pub returns : goal.returns
returns c = law.one_outcome
