use Rattle.std.proofs.Common.{◌++◌, ◌∙◌, List, ap, subst, sym}
use Rattle.std.specs.List.{AllByRecursion}
use Rattle.cob_source.specs.Tokens.{Lexeme}
use Rattle.cob_move_conditions.specs.Words.{IsNoConditionWord}
use Rattle.cob_move_conditions.proofs.WordLemmas.{false_is_true}
use Rattle.cob_move_conditions.proofs.operands.operand_at.Goals as goal

pub words_before-requires : goal.words_before-requires
words_before-requires c = let (ws, is, e) = c.in_ok-sender.ensures.found in (ws, tt, e)

pub returns-clause-found : goal.returns-clause-found
returns-clause-found c =
    let (ws, is, e) = c.in_ok-sender.ensures.found in
    (ws, (is, subst (AllByRecursion IsNoConditionWord) (c.words_before.ensures ws e) (c.has_no_condition_word.ensures.0 c.if-not-has_no_condition_word.false)), e)

pub returns-then-not-has_no_condition_word-clause-only : goal.returns-then-not-has_no_condition_word-clause-only
returns-then-not-has_no_condition_word-clause-only c = λ x ws more is no_of no_bracket cut.
    let read = c.in_ok-sender.ensures.only x ws more is.0 no_of no_bracket cut in
    let own = c.words_before.ensures ws (cut ∙ ap (λ (t : List Lexeme). ws ++ t) (sym read.1)) in
    absurd (false_is_true (sym c.if-not-has_no_condition_word.true ∙ c.has_no_condition_word.ensures.1 (subst (AllByRecursion IsNoConditionWord) (sym own) is.1)))
