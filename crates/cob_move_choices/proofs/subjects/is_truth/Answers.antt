use Rattle.std.proofs.Common.{◌≡◌, ◌∷◌, [], ◌∙◌, List, ap, sym, subst}
use Rattle.std.specs.Prelude.{IsTrue}
use Rattle.cob_source.specs.Tokens.{Lexeme, lexeme, lexemes}
use Rattle.cob_move_choices.specs.Choices.{IsTruth}
use Rattle.cob_move_choices.proofs.ListedLemmas.{false_true, more_truth, no_truth, nothing_left}
use Rattle.cob_move_loops.proofs.PassageLemmas.{none_left, some_left}
use Rattle.cob_move_choices.proofs.subjects.is_truth.Goals as goal

pub returns-in_default : goal.returns-in_default
returns-in_default c = (λ never. absurd (false_true never), λ is. absurd (no_truth (lexemes c.args.words.now) (nothing_left c.args.words.now c.in_default.ensures.cases) is))

pub returns-then-not-is_empty : goal.returns-then-not-is_empty
returns-then-not-is_empty c = (
  λ never. absurd (false_true never),
  λ is. absurd (more_truth (lexeme c.in-Some.only.now) (lexemes c.args.words.now) (lexemes c.in-Some.more.now) (ap lexemes c.in-Some.ensures.cases.0) (some_left c.in-Some.more.now c.is_empty.result c.is_empty.ensures c.if-not-is_empty.true) is),
)

pub returns : goal.returns
returns c =
    let whole : lexemes c.args.words.now ≡ lexeme c.in-Some.only.now ∷ [] =
    ap lexemes c.in-Some.ensures.cases.0 ∙ ap (λ (t : List Lexeme). lexeme c.in-Some.only.now ∷ t) (none_left c.in-Some.more.now c.is_empty.result c.is_empty.ensures c.if-not-is_empty.false) in
    subst (λ (ws : List Lexeme). (IsTrue c.is_that_word.result → IsTruth ws) × (IsTruth ws → IsTrue c.is_that_word.result)) (sym whole) c.is_that_word.ensures
