use Rattle.cob_layout.proofs.NeedLemmas as law
use Rattle.cob_layout.proofs.laws.one_place_by_needs.Goals as goal

pub returns-clause-needed : goal.returns-clause-needed
returns-clause-needed c = law.one_place_by_needs c.one_outcome_of_counts.ensures.needed c.same_counts.ensures

pub returns-clause-all : goal.returns-clause-all
returns-clause-all c = law.one_place_by_all c.all_give_needed.ensures (law.one_place_by_needs c.one_outcome_of_counts.ensures.needed c.same_counts.ensures)
