use Rattle.std.proofs.Common.{List, ◌++◌, ap, ◌∙◌}
use Rattle.cob_source.specs.Tokens.{Lexeme, lexemes}
use Rattle.cob_move_loops.specs.declared.parts.ChoiceKind.TheVariants as kind
use Rattle.cob_move_loops.specs.Reading.{BranchInFront, WhenTestInFront}
use Rattle.cob_move_loops.proofs.ChoiceLemmas.{when_behind}
use Rattle.cob_move_loops.proofs.HeadLemmas.{some_weaker}
use Rattle.cob_move_loops.proofs.choice.when_head_at.Goals as goal

pub returns-in_err-tested-clause-only : goal.returns-in_err-tested-clause-only
returns-in_err-tested-clause-only c = λ t head more (w, own, is, it, f) none e.
    absurd (c.in_err-tested.ensures.only w (own ++ more) is (e ∙ ap (λ (x : List Lexeme). x ++ more) f))

pub returns-clause-found : goal.returns-clause-found
returns-clause-found c =
    some_weaker (λ r. WhenTestInFront r.0 (lexemes c.in_ok-tested.tested.now) (lexemes r.1.now)) (λ r. BranchInFront kind.Evaluate r.0 (lexemes c.args.words.now) (lexemes r.1.now)) c.when_test_at.result
    (λ r is. when_behind r.0 (lexemes c.args.words.now) (lexemes c.in_ok-tested.tested.now) (lexemes r.1.now) c.in_ok-tested.ensures.found is) c.when_test_at.ensures.found

pub returns-clause-only : goal.returns-clause-only
returns-clause-only c = λ t head more (w, own, is, it, f) none e.
    c.when_test_at.ensures.only t own more it none (c.in_ok-tested.ensures.only w (own ++ more) is (e ∙ ap (λ (x : List Lexeme). x ++ more) f))
