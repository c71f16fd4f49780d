use Rattle.std.proofs.Common.{[], ◌∷◌, refl, inl}
use Rattle.cob_source.specs.Tokens.{lexemes}
use Rattle.cob_copybook_clauses.specs.Reading.{StandInFront}
use Rattle.cob_move_loops.specs.Passages.{IsGreater, IsPastWord}
use Rattle.cob_move_loops.proofs.HeadLemmas.{past_behind, some_weaker}
use Rattle.cob_move_loops.proofs.head.behind_past.Goals as goal

pub returns-in-Some-clause-found : goal.returns-in-Some-clause-found
returns-in-Some-clause-found c =
    let (w, is, e) = c.in-Some.ensures.found in
    (w ∷ [], inl (w, is, refl), e)

pub returns-clause-found : goal.returns-clause-found
returns-clause-found c =
    some_weaker (λ r. StandInFront IsGreater (lexemes c.skip_is.result.now) (lexemes r.now)) (λ r. StandInFront IsPastWord (lexemes c.args.words.now) (lexemes r.now)) c.behind_greater.result
    (λ r stands. past_behind (lexemes c.args.words.now) (lexemes c.skip_is.result.now) (lexemes r.now) c.skip_is.ensures.found stands) c.behind_greater.ensures.found
