use Rattle.std.proofs.Common.{[], List, ◌∷◌, ◌++◌, refl, sym, ap, ◌∙◌}
use Rattle.cob_source.specs.Tokens.{Lexeme, lexemes}
use Rattle.cob_move_loops.specs.Passages.{AnEvaluate}
use Rattle.cob_move_loops.specs.Words.{first_line}
use Rattle.cob_move_loops.proofs.ChoiceLemmas.{choice_one}
use Rattle.cob_move_loops.proofs.choice.evaluate_at.Goals as goal

pub returns-in_err-tested-clause-only : goal.returns-in_err-tested-clause-only
returns-in_err-tested-clause-only c = λ line subject head more (w, is, at, are, f) none e.
    absurd (c.in_err-tested.ensures.only w (subject ++ more) is (e ∙ ap (λ (t : List Lexeme). t ++ more) f))

pub returns-in_err-subject-clause-only : goal.returns-in_err-subject-clause-only
returns-in_err-subject-clause-only c = λ line subject head more (w, is, at, are, f) none e.
    absurd (c.in_err-subject.ensures.only subject more are none (c.in_ok-tested.ensures.only w (subject ++ more) is (e ∙ ap (λ (t : List Lexeme). t ++ more) f)))

pub returns-clause-found : goal.returns-clause-found
returns-clause-found c =
    let (w, is, e) = c.in_ok-tested.ensures.found in
    let (are, none, f) = c.in_ok-subject.ensures.found in
    (w ∷ lexemes c.in_ok-subject.subject.now, (w, is, c.first_line.ensures ∙ ap first_line e, are, refl), none, e ∙ ap (λ (t : List Lexeme). w ∷ t) f)

pub returns-clause-only : goal.returns-clause-only
returns-clause-only c = λ line subject head more h ends e.
    let (w, is, f) = c.in_ok-tested.ensures.found in
    let (are, none, g) = c.in_ok-subject.ensures.found in
    choice_one (AnEvaluate c.first_line.result (lexemes c.in_ok-subject.subject.now)) (AnEvaluate line subject) (w ∷ lexemes c.in_ok-subject.subject.now) head (lexemes c.in_ok-subject.more.now) more
    (w, is, c.first_line.ensures ∙ ap first_line f, are, refl) h none ends (sym (f ∙ ap (λ (t : List Lexeme). w ∷ t) g) ∙ e)
