use Rattle.std.proofs.Common.{inl, ◌∷◌, []}
use Rattle.cob_copybook_clauses.proofs.words.skip_is_or_are.Goals as goal

pub returns-in-Some-clause-found : goal.returns-in-Some-clause-found
returns-in-Some-clause-found c = let (w, is, e) = c.in-Some.ensures.found in (w ∷ [], inl is, e)
