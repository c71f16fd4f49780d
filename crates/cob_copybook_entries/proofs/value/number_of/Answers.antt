use Rattle.cob_copybook_entries.proofs.Constants.{literal_means, one_numeric}
use Rattle.cob_copybook_entries.proofs.value.number_of.Goals as goal

pub returns-in-Some-clause-found : goal.returns-in-Some-clause-found
returns-in-Some-clause-found c = literal_means _ _ _ _ c.in-Some.ensures.found

pub returns-in-Some-clause-only : goal.returns-in-Some-clause-only
returns-in-Some-clause-only c k means = one_numeric _ _ _ _ _ k (literal_means _ _ _ _ c.in-Some.ensures.found) means
