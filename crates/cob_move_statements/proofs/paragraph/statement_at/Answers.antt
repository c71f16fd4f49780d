use Rattle.std.proofs.Common.{List, refl, sym, ap, ◌∙◌, ◌++◌, ◌∷◌}
use Rattle.cob_source.specs.Tokens.{Lexeme}
use Rattle.cob_move_statements.specs.Written.{written_action}
use Rattle.cob_move_statements.proofs.ParagraphLemmas.{same_statement}
use Rattle.cob_move_statements.proofs.paragraph.statement_at.Goals as goal

pub returns-in_default-2-clause-only : goal.returns-in_default-2-clause-only
returns-in_default-2-clause-only c = λ x ws more is fit e.
    let split = e ∙ ap (λ (t : List Lexeme). t ++ more) is.words in
    let moved = c.in-Some.ensures.only is.move (is.behind ++ more) is.is split in
    let never = c.in_ok-action.ensures.only x.action is.behind more is.acts fit moved.1 in
    absurd (rw c.in_default-2.is at never)

pub returns-clause-found : goal.returns-clause-found
returns-clause-found c =
    let (w, is, line, e) = c.in-Some.ensures.found in
    let (behind, acts, f) = rw c.in-Some-2.is at c.in_ok-action.ensures.found in
    (w ∷ behind, record { move = w; behind = behind; is = is; line = line; acts = acts; words = refl }, e ∙ ap (λ (t : List Lexeme). w ∷ t) f)

pub returns-clause-only : goal.returns-clause-only
returns-clause-only c = λ x ws more is fit e.
    let split = e ∙ ap (λ (t : List Lexeme). t ++ more) is.words in
    let moved = c.in-Some.ensures.only is.move (is.behind ++ more) is.is split in
    let acted = c.in_ok-action.ensures.only x.action is.behind more is.acts fit moved.1 in
    let same = rw c.in-Some-2.is at acted in
    (same_statement x c.in-Some.line (written_action c.in-Some-2.action) (moved.0 ∙ sym is.line) same.0, same.1)
