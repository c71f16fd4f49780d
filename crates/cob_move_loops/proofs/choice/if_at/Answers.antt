use Rattle.std.proofs.Common.{[], List, ◌∷◌, ◌++◌, refl, sym, ap, ◌∙◌}
use Rattle.cob_source.specs.Tokens.{Lexeme, lexemes}
use Rattle.cob_move_loops.specs.Passages.{AnIf}
use Rattle.cob_move_loops.specs.Words.{first_line}
use Rattle.cob_move_loops.proofs.ChoiceLemmas.{choice_one}
use Rattle.cob_move_loops.proofs.choice.if_at.Goals as goal

pub returns-in_err-more-clause-only : goal.returns-in_err-more-clause-only
returns-in_err-more-clause-only c = λ line head more (w, is, at, f) e. absurd (c.in_err-more.ensures.only w more is (e ∙ ap (λ (t : List Lexeme). t ++ more) f))

pub returns-clause-found : goal.returns-clause-found
returns-clause-found c =
    let (w, is, e) = c.in_ok-more.ensures.found in
    (w ∷ [], (w, is, c.first_line.ensures ∙ ap first_line e, refl), tt, e)

pub returns-clause-only : goal.returns-clause-only
returns-clause-only c = λ line head more h e.
    let (w, is, f) = c.in_ok-more.ensures.found in
    choice_one (AnIf c.first_line.result) (AnIf line) (w ∷ []) head (lexemes c.in_ok-more.more.now) more (w, is, c.first_line.ensures ∙ ap first_line f, refl) h tt tt (sym f ∙ e)
