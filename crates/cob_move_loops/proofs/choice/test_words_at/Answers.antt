use Rattle.std.proofs.Common.{sym, ap, subst, ◌≡◌, ◌∙◌, true, false}
use Rattle.cob_source.specs.Tokens.{lexemes}
use Rattle.cob_move_loops.specs.Words.{AreTestWords}
use Rattle.cob_move_loops.proofs.ChoiceLemmas.{are_tests, tests_one}
use Rattle.cob_move_loops.proofs.choice.test_words_at.Goals as goal

pub returns-then-not-are_test_words-clause-only : goal.returns-then-not-are_test_words-clause-only
returns-then-not-are_test_words-clause-only c = λ own more is ends e.
    let one = tests_one own (lexemes c.all_test_words_at.result.0.now) more (lexemes c.all_test_words_at.result.1.now) (are_tests own is) c.all_test_words_at.ensures.are ends c.all_test_words_at.ensures.ends (sym e ∙ c.all_test_words_at.ensures.found) in
    let yes = c.are_test_words.ensures.1 (subst AreTestWords one.0 is) in
    absurd (let never : false ≡ true = sym c.if-not-are_test_words.true ∙ yes in cc)

pub returns-clause-found : goal.returns-clause-found
returns-clause-found c = (c.are_test_words.ensures.0 c.if-not-are_test_words.false, c.all_test_words_at.ensures.ends, c.all_test_words_at.ensures.found)

pub returns-clause-only : goal.returns-clause-only
returns-clause-only c = λ own more is ends e.
    let one = tests_one own (lexemes c.all_test_words_at.result.0.now) more (lexemes c.all_test_words_at.result.1.now) (are_tests own is) c.all_test_words_at.ensures.are ends c.all_test_words_at.ensures.ends (sym e ∙ c.all_test_words_at.ensures.found) in
    (sym one.0, sym one.1)
