use Rattle.std.proofs.Common.{ap, inr, refl, sym, ◌∙◌}
use Rattle.cob_source.specs.Tokens.{lexeme}
use Rattle.cob_move_conditions.specs.Conditions.{quality_of_word}
use Rattle.cob_move_conditions.proofs.TestLemmas.{quality_found, quality_only, quality_zero}
use Rattle.cob_move_conditions.proofs.WordLemmas.{false_is_true}
use Rattle.cob_move_conditions.proofs.tests.quality_of.Goals as goal

pub returns-then-is_term-clause-found : goal.returns-then-is_term-clause-found
returns-then-is_term-clause-found c = inr (c.is_term.ensures.0 c.if-is_term.true, refl)

pub returns-then-is_term-clause-only : goal.returns-then-is_term-clause-only
returns-then-is_term-clause-only c = λ q is. quality_zero q (lexeme c.args.word.now) (c.is_term.ensures.0 c.if-is_term.true) is

pub returns-clause-found : goal.returns-clause-found
returns-clause-found c = quality_found c.quality_of_word.result (lexeme c.args.word.now) (c.quality_of_word.ensures ∙ ap quality_of_word c.condition_word.ensures)

pub returns-clause-only : goal.returns-clause-only
returns-clause-only c = λ q is.
    quality_only c.quality_of_word.result (lexeme c.args.word.now) (c.quality_of_word.ensures ∙ ap quality_of_word c.condition_word.ensures) (λ e. false_is_true (sym c.if-is_term.false ∙ c.is_term.ensures.1 e)) q is
