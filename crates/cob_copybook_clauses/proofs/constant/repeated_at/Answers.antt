use Rattle.std.proofs.Common.{refl, ◌∷◌, []}
use Rattle.cob_copybook_clauses.proofs.constant.repeated_at.Goals as goal

pub returns-in-Some-clause-found : goal.returns-in-Some-clause-found
returns-in-Some-clause-found c = λ all is. let (w, k, t, e) = c.in-Some.ensures.found in (w ∷ [], (all, w, is, k, t, refl), e)

pub returns-clause-found : goal.returns-clause-found
returns-clause-found c = λ all is. let (w, f, e) = c.in_ok-figurative.ensures.found in (w ∷ [], (all ∷ [], w, is, f, refl), e)
