use Rattle.std.proofs.Common.{◌∙◌, ◌∷◌, List, ap}
use Rattle.cob_source.specs.Tokens.{Lexeme, lexeme, lexemes}
use Rattle.cob_move_statements.proofs.paragraph.heading_at.Goals as goal

pub returns-clause-found : goal.returns-clause-found
returns-clause-found c =
    let (stop, is, e) = c.in_ok-more.ensures.found in
    (lexeme c.in_ok-first.first.now, stop, c.is_name_word.ensures.0 c.if-not-is_name_word.false, is, ap lexemes c.in_ok-first.ensures.cases.0 ∙ ap (λ (t : List Lexeme). lexeme c.in_ok-first.first.now ∷ t) e)
