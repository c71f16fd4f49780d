-- Elements of a table, one behind another.
use Rattle.std.proofs.Common.{◌≡◌, ℕ, zero, suc, ◌+◌, ◌*◌, ◌<◌, ◌≤◌, List, ◌++◌, length, take, refl, sym, ap, ◌∙◌, arith}
use Rattle.std.proofs.lemmas.List.{append_assoc, append-nil, take-take, take-append-le, length-take-le}
use Rattle.std.proofs.lemmas.List.Edits.{take-paste}
use Rattle.std.proofs.Math.Numerals.{add-one}
use Rattle.std.specs.List.{copy_within}
use lib.Seq.{paste}
use Rattle.cob_move_receive.specs.Characters.{repeated}
use Rattle.cob_move_initial.specs.Initial.{AreParts}

-- one more element
repeated_more : (n : ℕ) (element : List ℕ) → repeated (suc n) element ≡ repeated n element ++ element
repeated_more zero element = append-nil element
repeated_more (suc n) element = ap (λ (t : List ℕ). element ++ t) (repeated_more n element) ∙ sym (append_assoc element (repeated n element) element)

product_more : (n size : ℕ) → n * size + size ≡ (n + 1) * size
product_more n size = grind arith

pub element_fits : (n times size : ℕ) → n < times → n * size + size ≤ times * size
element_fits n times size lt = grind arith

pub first_fits : (n size : ℕ) → 0 < n → size ≤ n * size
first_fits n size some = grind arith

-- the first element is copied behind the others
pub record IsCopied (element bytes : List ℕ) (n size : ℕ) : Type 0 where
  pub front : take ((n + 1) * size) bytes ≡ repeated (n + 1) element
  pub first : take size bytes ≡ element

pub copied : (element old new : List ℕ) (n size : ℕ) → 0 < n → n * size + size ≤ length old → take (n * size) old ≡ repeated n element → take size old ≡ element
    → new ≡ copy_within old 0 size (n * size) → IsCopied element new n size
copied element old new n size some room front first is =
    let least : size ≤ n * size = first_fits n size some in
    let pasted : new ≡ paste old (n * size) old size = is ∙ ap (λ (k : ℕ). paste old (n * size) old k) (omega arith) in
    let all : take (n * size + size) new ≡ take (n * size) old ++ take size old = ap (take (n * size + size)) pasted ∙ take-paste old (n * size) old size (omega arith) (omega arith) in
    let start : size ≤ length (take (n * size) old) = rw (length-take-le (n * size) old (omega arith)) least in
    record {
      front = rw (← product_more n size, all, front, first, add-one n) (sym (repeated_more n element));
      first = sym (take-take size (n * size + size) new (omega arith)) ∙ ap (take size) all ∙ take-append-le size (take (n * size) old) (take size old) start ∙ take-take size (n * size) old least ∙ first;
    }

-- an element that stands so many times makes so many parts
pub parts_repeated : (IsPart : List ℕ → Type 0) (n : ℕ) (element : List ℕ) → IsPart element → AreParts IsPart n (repeated n element)
parts_repeated IsPart zero element is = refl
parts_repeated IsPart (suc n) element is = (element, repeated n element, refl, is, parts_repeated IsPart n element is)
