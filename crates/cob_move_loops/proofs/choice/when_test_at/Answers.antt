use Rattle.std.proofs.Common.{[], ◌∷◌, refl, sym, ◌∙◌}
use Rattle.cob_source.specs.Tokens.{lexemes}
use Rattle.cob_move_loops.proofs.ChoiceLemmas.{no_other_first, other_one, when_absent, when_only}
use Rattle.cob_move_loops.proofs.choice.when_test_at.Goals as goal

pub returns-in-Some-clause-found : goal.returns-in-Some-clause-found
returns-in-Some-clause-found c =
    let (w, is, e) = c.in-Some.ensures.found in
    (w ∷ [], (w, is, refl), e)

pub returns-in-Some-clause-only : goal.returns-in-Some-clause-only
returns-in-Some-clause-only c = λ t own more h none e.
    let (w, is, f) = c.in-Some.ensures.found in
    other_one w (lexemes c.in-Some.more.now) t own more is h (sym f ∙ e)

pub returns-in_err-test-clause-only : goal.returns-in_err-test-clause-only
returns-in_err-test-clause-only c = λ t own more h none e.
    absurd (when_absent (lexemes c.args.words.now) c.in_default.ensures.only c.in_err-test.ensures.only t own more h none e)

pub returns-clause-found : goal.returns-clause-found
returns-clause-found c =
    let (are, none, e) = c.in_ok-test.ensures.found in
    let test = lexemes c.in_ok-test.test.now in
    (test, (are, no_other_first (lexemes c.args.words.now) test (lexemes c.in_ok-test.behind.now) c.in_default.ensures.only e, refl), e)

pub returns-clause-only : goal.returns-clause-only
returns-clause-only c = λ t own more h none e.
    when_only (lexemes c.args.words.now) (lexemes c.in_ok-test.test.now) (lexemes c.in_ok-test.behind.now) c.in_default.ensures.only c.in_ok-test.ensures.only t own more h none e
