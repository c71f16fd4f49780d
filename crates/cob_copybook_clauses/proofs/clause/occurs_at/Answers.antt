use Rattle.std.proofs.Common.{◌∙◌, ap, refl, List, ◌∷◌, ◌++◌}
use Rattle.cob_source.specs.Tokens.{Lexeme}
use Rattle.cob_copybook_clauses.specs.Clauses.{Occurs}
use Rattle.cob_copybook_clauses.proofs.clause.occurs_at.Goals as goal

pub returns-clause-found : goal.returns-clause-found
returns-clause-found c =
    let (k, is, e) = c.in_ok-more.ensures.found in
    let (ws, table, f) = c.in_ok-table.ensures.found in
    (k ∷ ws, (k, ws, is, table, refl), e ∙ ap (λ (t : List Lexeme). k ∷ t) f)

pub returns-in_err-table-clause-only : goal.returns-in_err-table-clause-only
returns-in_err-table-clause-only c = λ t ws more (k, vs, is, table, e) first f.
    absurd (c.in_err-table.ensures.only t vs more table first (c.in_ok-more.ensures.only k (vs ++ more) is (f ∙ ap (λ (t : List Lexeme). t ++ more) e)))

pub returns-clause-only : goal.returns-clause-only
returns-clause-only c = λ t ws more (k, vs, is, table, e) first f.
    let r = c.in_ok-table.ensures.only t vs more table first (c.in_ok-more.ensures.only k (vs ++ more) is (f ∙ ap (λ (t : List Lexeme). t ++ more) e)) in
    (ap Occurs r.0, r.1)
