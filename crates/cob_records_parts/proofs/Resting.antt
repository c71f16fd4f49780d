-- What is given of a source that gives the first bytes of another, and what is left of it.
use Rattle.std.proofs.Common.{◌≡◌, ◌∙◌, ℕ, ◌+◌, ◌-◌, ◌≤◌, List, ◌++◌, length, take, ap, arith, None, Some, Option}
use Rattle.std.proofs.Math.Seq.{take-append-add}
use Rattle.std.proofs.lemmas.Grind.{common_steps}
use Rattle.std.proofs.lemmas.List.{take-append-le}
use Rattle.std.specs.Io.KnownBytes.{prepend_known}
use Rattle.std.specs.Prelude.{IfSome, option_map}
use Rattle.cob_records_parts.specs.Parts.{at_most, less_by}

take_front : (n most : ℕ) (part rest : List ℕ) → length part ≡ n → n ≤ most → take most (part ++ rest) ≡ part ++ take (most - n) rest
take_front n most part rest long few =
    let sum : most ≡ length part + (most - n) = omega (arith, long, few) in
    ap (λ (k : ℕ). take k (part ++ rest)) sum ∙ take-append-add part rest (most - n)

given : (bound : Option ℕ) (n : ℕ) (part : List ℕ) (before now : Option (List ℕ)) → length part ≡ n → IfSome bound (λ most. n ≤ most)
    → before ≡ prepend_known part now → option_map (at_most bound) before ≡ prepend_known part (option_map (at_most (less_by n bound)) now)
given None n part before None long few is = ap (option_map (at_most None)) is
given None n part before (Some rest) long few is = ap (option_map (at_most None)) is
given (Some most) n part before None long few is = ap (option_map (at_most (Some most))) is
given (Some most) n part before (Some rest) long few is =
    ap (option_map (at_most (Some most))) is ∙ ap Some (take_front n most part rest long few)

fits : (bound : Option ℕ) (n most : ℕ) → n ≤ most → IfSome bound (λ bytes. most ≤ bytes) → IfSome bound (λ bytes. n ≤ bytes)
fits None n most few within = tt
fits (Some bytes) n most few within = omega (arith, few, within)

-- so many of the bytes that came are given
pub given_front : (bound left : Option ℕ) (n most : ℕ) (came behind : List ℕ) (before now : Option (List ℕ)) → n ≤ length came → length came ≤ most
    → IfSome bound (λ bytes. most ≤ bytes) → left ≡ less_by n bound → before ≡ prepend_known (take n came) now
    → option_map (at_most bound) before ≡ prepend_known (take n (came ++ behind)) (option_map (at_most left) now)
given_front bound left n most came behind before now few long within same is =
    let size : length (take n came) ≡ n = grind (arith, common_steps) in
    rw (same, take-append-le n came behind few)
    (given bound n (take n came) before now size (fits bound n most (omega (arith, few, long)) within) is)
