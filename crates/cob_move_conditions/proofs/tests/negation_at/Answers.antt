use Rattle.std.proofs.Common.{◌∷◌, [], refl}
use Rattle.cob_move_conditions.proofs.TestLemmas.{no_negation, one_negation}
use Rattle.cob_source.specs.Tokens.{lexemes}
use Rattle.cob_move_conditions.proofs.tests.negation_at.Goals as goal

pub returns-in-Some-clause-found : goal.returns-in-Some-clause-found
returns-in-Some-clause-found c = let (w, is, e) = c.in-Some.ensures.found in (w ∷ [], (w, is, refl), e)

pub returns-in-Some-clause-only : goal.returns-in-Some-clause-only
returns-in-Some-clause-only c = λ opposite ws more negates fit cut.
    let (w, is, e) = c.in-Some.ensures.found in
    one_negation (lexemes c.args.words.now) (lexemes c.in-Some.more.now) w is e opposite ws more negates fit cut

pub returns-in-None-clause-found : goal.returns-in-None-clause-found
returns-in-None-clause-found c = ([], refl, refl)

pub returns-in-None-clause-only : goal.returns-in-None-clause-only
returns-in-None-clause-only c = λ opposite ws more negates fit cut. no_negation (lexemes c.args.words.now) c.in-None.ensures.only opposite ws more negates cut
