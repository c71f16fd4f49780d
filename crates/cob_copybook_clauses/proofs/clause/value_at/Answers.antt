use Rattle.std.proofs.Common.{◌∙◌, ap, refl, List, ◌∷◌, ◌++◌, append_assoc}
use Rattle.cob_source.specs.Tokens.{Lexeme}
use Rattle.cob_copybook_clauses.specs.Clauses.{Value}
use Rattle.cob_copybook_clauses.proofs.ClauseLemmas.{three_words, constant_not_first, no_is, no_are}
use Rattle.cob_copybook_clauses.proofs.clause.value_at.Goals as goal

pub returns-clause-found : goal.returns-clause-found
returns-clause-found c =
    let (k, is, e) = c.in_ok-more.ensures.found in
    let (noise, n, f) = c.skip_is_or_are.ensures.found in
    let (con, constant, g) = c.in_ok-constant.ensures.found in
    (k ∷ (noise ++ con), (k, noise, con, is, n, constant, refl), three_words k _ _ _ noise con _ e f g)

pub returns-in_err-constant-clause-only : goal.returns-in_err-constant-clause-only
returns-in_err-constant-clause-only c = λ v ws more (k, noise, con, is, n, constant, e) first f.
    let behind = c.in_ok-more.ensures.only k (noise ++ (con ++ more)) is (f ∙ ap (λ (t : List Lexeme). t ++ more) e ∙ ap (λ (t : List Lexeme). k ∷ t) (append_assoc noise con more)) in
    absurd (c.in_err-constant.ensures.only v con more constant (c.skip_is_or_are.ensures.only noise (con ++ more) n (constant_not_first _ v con more no_is constant) (constant_not_first _ v con more no_are constant) behind))

pub returns-clause-only : goal.returns-clause-only
returns-clause-only c = λ v ws more (k, noise, con, is, n, constant, e) first f.
    let behind = c.in_ok-more.ensures.only k (noise ++ (con ++ more)) is (f ∙ ap (λ (t : List Lexeme). t ++ more) e ∙ ap (λ (t : List Lexeme). k ∷ t) (append_assoc noise con more)) in
    let r = c.in_ok-constant.ensures.only v con more constant (c.skip_is_or_are.ensures.only noise (con ++ more) n (constant_not_first _ v con more no_is constant) (constant_not_first _ v con more no_are constant) behind) in
    (ap Value r.0, r.1)
