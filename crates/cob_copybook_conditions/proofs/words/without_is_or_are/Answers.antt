use Rattle.std.proofs.Common.{inl, inr, ◌∷◌, []}
use Rattle.cob_copybook_conditions.proofs.words.without_is_or_are.Goals as goal

pub returns-in-Some-clause-found : goal.returns-in-Some-clause-found
returns-in-Some-clause-found c = let (w, is, e) = c.in-Some.ensures.found in (w ∷ [], inl is, e)

pub returns-in-Some-behind-clause-found : goal.returns-in-Some-behind-clause-found
returns-in-Some-behind-clause-found c = let (w, is, e) = c.in-Some-behind.ensures.found in (w ∷ [], inr is, e)
