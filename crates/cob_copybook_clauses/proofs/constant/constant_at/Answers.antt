use Rattle.std.proofs.Common.{refl, ◌∷◌, []}
use Rattle.cob_copybook_clauses.proofs.constant.constant_at.Goals as goal

pub returns-in-Some-clause-found : goal.returns-in-Some-clause-found
returns-in-Some-clause-found c = let (w, f, e) = c.in-Some.ensures.found in (w ∷ [], (w, f, refl), e)

pub returns-in-Some-literal_at-clause-found : goal.returns-in-Some-literal_at-clause-found
returns-in-Some-literal_at-clause-found c = let (w, k, t, e) = c.in-Some-literal_at.ensures.found in (w ∷ [], (w, k, t, refl), e)

pub returns-clause-found : goal.returns-clause-found
returns-clause-found c = let (w, f, e) = c.in_ok-figurative.ensures.found in (w ∷ [], ([], w, tt, f, refl), e)
