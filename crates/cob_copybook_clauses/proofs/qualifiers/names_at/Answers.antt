use Rattle.std.proofs.Common.{◌∙◌, ap, List, ◌++◌, ◌∷◌, arith}
use Rattle.cob_source.specs.Tokens.{Lexeme}
use Rattle.cob_copybook_clauses.proofs.TableLemmas.{first_name}
use Rattle.cob_copybook_clauses.proofs.qualifiers.names_at.Goals as goal

pub returns-in_err-more-clause-only : goal.returns-in_err-more-clause-only
returns-in_err-more-clause-only c = λ names more are nf e.
    let (w, others, is, all, f) = first_name names are in
    absurd (c.in_err-more.ensures.only w (others ++ more) is (e ∙ ap (λ (t : List Lexeme). t ++ more) f))

pub returns-clause-found : goal.returns-clause-found
returns-clause-found c =
    let (w, is, e) = c.in_ok-more.ensures.found in
    let (names, all, f) = c.skip_names.ensures.found in
    (w ∷ names, (omega arith, (is, all)), e ∙ ap (λ (t : List Lexeme). w ∷ t) f)

pub returns-clause-only : goal.returns-clause-only
returns-clause-only c = λ names more are nf e.
    let (w, others, is, all, f) = first_name names are in
    c.skip_names.ensures.only others more all nf (c.in_ok-more.ensures.only w (others ++ more) is (e ∙ ap (λ (t : List Lexeme). t ++ more) f))
