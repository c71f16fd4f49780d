use Rattle.std.proofs.Common.{◌∷◌, []}
use Rattle.cob_move_conditions.proofs.words.without_word.Goals as goal

pub returns-in-Some-clause-found : goal.returns-in-Some-clause-found
returns-in-Some-clause-found c = let (w, is, e) = c.in-Some.ensures.found in (w ∷ [], is, e)
