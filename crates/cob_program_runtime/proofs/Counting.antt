-- The bytes of a text that is written in parts.
use Rattle.std.proofs.Common.{◌≡◌, ℕ, ◌+◌, List, [], ◌∷◌, length, arith, refl, sym, ap, ◌∙◌, Option, Some, None}
use Rattle.std.proofs.lemmas.List.{length-append}
use Rattle.std.specs.Fmt.{WritesText}
use Rattle.std.specs.List.{FoldsTo, concat}
use Rattle.std.specs.Option.{IfSome}
use Rattle.cob_program_runtime.specs.Prints.{saturated}
use Rattle.cob_program_runtime.specs.declared.printing.Counter.{Counter}

-- what one call counts
abbrev Counts : Counter → List ℕ → Counter → Type 0
Counts before text behind = behind.bytes ≡ saturated (before.bytes + length text)

-- counting on behind a count that is at most the greatest
counted_on : (before one more all : ℕ) → one ≡ saturated before → more ≡ all → saturated (one + more) ≡ saturated (before + all)
counted_on before one more all is same = omega (arith, is, same)

-- the parts of a text count as the text does
counts_parts : (before : Counter) (parts : List (List ℕ)) (behind : Counter) (most : ℕ) → before.bytes ≡ saturated most → FoldsTo Counts before parts behind
    → behind.bytes ≡ saturated (most + length (concat parts))
counts_parts before [] behind most is same = ap (λ c. c.bytes) (sym same) ∙ (is ∙ ap saturated (omega arith))
counts_parts before (part ∷ parts) behind most is (next, one, more) =
    let here : next.bytes ≡ saturated (most + length part) = one ∙ counted_on most before.bytes (length part) (length part) is refl in
    counts_parts next parts behind (most + length part) here more ∙ ap saturated (omega (arith, length-append part (concat parts)))

-- a text that was written to a counter of nothing is counted
pub counts_text : (before behind : Counter) (output : Option (List ℕ)) → before.bytes ≡ 0 → WritesText Counts before output behind
    → IfSome output (λ text. behind.bytes ≡ saturated (length text))
counts_text before behind None nothing writes = tt
counts_text before behind (Some text) nothing writes =
    let none : 0 + length (concat writes.parts) ≡ length text = omega (arith, ap (λ t. length t) writes.whole) in
    counts_parts before writes.parts behind 0 (nothing ∙ omega arith) writes.calls ∙ ap saturated none
