-- A text that is read piece by piece.
use Rattle.std.proofs.Common.{◌≡◌, ℕ, ◌+◌, List, [], ◌∷◌, ◌++◌, length, sym, ap, ◌∙◌, append_assoc, append-nil, arith}
use Rattle.std.proofs.lemmas.List.{nil_from_length, length-append}
use Rattle.cob_source.specs.Tokens.{Lexeme}
use Rattle.cob_source.specs.Lines.{lines}

-- words behind words that were read before
pub behind_front : (front old ts new : List Lexeme) → old ++ ts ≡ new → (front ++ old) ++ ts ≡ front ++ new
behind_front front old ts new e = append_assoc front old ts ∙ ap (λ (t : List Lexeme). front ++ t) e

-- nothing is left of the text, so that its lines are those that are read
pub all_read : (text rest : List ℕ) (before : List (List ℕ)) → lines text ≡ before ++ lines rest → rest ≡ [] → lines text ≡ before
all_read text rest before e none = e ∙ ap (λ (t : List ℕ). before ++ lines t) none ∙ append-nil before

pub nothing_left : (xs : List ℕ) → length xs ≡ 0 → xs ≡ []
nothing_left xs e = nil_from_length xs e

-- a line more is read
pub line_read : (text rest more line : List ℕ) (before : List (List ℕ)) → lines text ≡ before ++ lines rest → lines rest ≡ line ∷ lines more → lines text ≡ (before ++ line ∷ []) ++ lines more
line_read text rest more line before e next = e ∙ ap (λ (t : List (List ℕ)). before ++ t) next ∙ sym (append_assoc before (line ∷ []) (lines more))

pub number_more : (n : ℕ) (before : List (List ℕ)) (line : List ℕ) → n ≡ length before + 1 → n + 1 ≡ length (before ++ line ∷ []) + 1
number_more n before line e = omega (arith, e, length-append before (line ∷ []))
