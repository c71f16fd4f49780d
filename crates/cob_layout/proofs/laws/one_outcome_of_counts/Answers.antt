use Rattle.cob_layout.proofs.ThoseLemmas.{one_of_all, one_of_needed}
use Rattle.cob_layout.proofs.laws.one_outcome_of_counts.Goals as goal

pub returns-clause-all : goal.returns-clause-all
returns-clause-all c = one_of_all c.one_outcome.ensures

pub returns-clause-needed : goal.returns-clause-needed
returns-clause-needed c = one_of_needed c.one_outcome.ensures
