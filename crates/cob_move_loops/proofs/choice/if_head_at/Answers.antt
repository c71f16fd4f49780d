use Rattle.std.proofs.Common.{[], List, ◌∷◌, ◌++◌, refl, sym, ap, ◌∙◌}
use Rattle.cob_source.specs.Tokens.{Lexeme, lexemes}
use Rattle.cob_move_loops.proofs.ChoiceLemmas.{else_one, if_absent, if_only, then_split}
use Rattle.cob_move_loops.proofs.choice.if_head_at.Goals as goal

pub returns-in-Some-clause-found : goal.returns-in-Some-clause-found
returns-in-Some-clause-found c =
    let (w, is, e) = c.in-Some.ensures.found in
    (w ∷ [], (w, is, refl), e)

pub returns-in-Some-clause-only : goal.returns-in-Some-clause-only
returns-in-Some-clause-only c = λ t head more h none e.
    let (w, is, f) = c.in-Some.ensures.found in
    else_one w (lexemes c.in-Some.more.now) t head more is h (sym f ∙ e)

pub returns-in_err-test-clause-only : goal.returns-in_err-test-clause-only
returns-in_err-test-clause-only c = λ t head more h none e.
    absurd (if_absent (lexemes c.args.words.now) c.in_default.ensures.only c.in_err-test.ensures.only t head more h none e)

pub returns-clause-found : goal.returns-clause-found
returns-clause-found c =
    let (are, none, e) = c.in_ok-test.ensures.found in
    let (end, is, f) = c.behind_then.ensures.found in
    let test = lexemes c.in_ok-test.test.now in
    (test ++ end, (end, are, is, refl), e ∙ ap (λ (t : List Lexeme). test ++ t) f ∙ sym (then_split test end (lexemes c.behind_then.result.now)))

pub returns-clause-only : goal.returns-clause-only
returns-clause-only c = λ t head more h none e.
    if_only (lexemes c.args.words.now) (lexemes c.in_ok-test.test.now) (lexemes c.in_ok-test.behind.now) (lexemes c.behind_then.result.now)
    c.in_default.ensures.only c.in_ok-test.ensures.only c.behind_then.ensures.only t head more h none e
