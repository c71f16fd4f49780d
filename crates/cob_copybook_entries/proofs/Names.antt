-- Lemmas on names and qualifiers.
use Rattle.std.proofs.Common.{◌≡◌, ℕ, ◌<◌, ◌++◌, List, [], ◌∷◌, length, refl, ap, sym, ◌∙◌, arith, append-nil}
use Rattle.cob_source.specs.declared.token.Token.{Token}
use Rattle.cob_source.specs.Tokens.{lexemes}
use Rattle.cob_copybook_clauses.specs.Written.{names_behind}

no_name_behind : (ts : List Token) → length ts < 2 → names_behind (lexemes ts) ≡ []
no_name_behind [] lt = refl
no_name_behind (t ∷ []) lt = refl
no_name_behind (t ∷ u ∷ ts) lt = absurd (omega (arith, lt))

-- where fewer than two words are left, all names are read
pub all_names : (ns all : List (List ℕ)) (ts : List Token) → ns ++ names_behind (lexemes ts) ≡ all → length ts < 2 → ns ≡ all
all_names ns all ts e lt = sym (ap (λ t. ns ++ t) (no_name_behind ts lt) ∙ append-nil ns) ∙ e
