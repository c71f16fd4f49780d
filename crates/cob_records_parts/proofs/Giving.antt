-- What is held, a part of it that is given, and what is still held.
use Rattle.std.proofs.Common.{◌≡◌, ◌∙◌, ℕ, ◌+◌, ◌-◌, ◌≤◌, List, [], ◌++◌, length, take, drop, sym, ap, append_assoc, arith}
use Rattle.std.proofs.lemmas.Grind.{common_steps}
use Rattle.std.proofs.lemmas.List.{drop-drop, drop-take, take-append-drop}

-- the end of the descriptors is given
pub from_front : (at n : ℕ) (front rest part : List ℕ) → length front ≡ 8 → part ≡ take n (take (8 - at) (drop at front))
    → drop at front ++ rest ≡ part ++ (drop (at + n) front ++ rest)
from_front at n front rest part long is =
    let all : take (8 - at) (drop at front) ≡ drop at front = grind (arith, common_steps) in
    ap (λ (xs : List ℕ). xs ++ rest) (sym (take-append-drop n (drop at front)))
    ∙ append_assoc (take n (drop at front)) (drop n (drop at front)) rest
    ∙ ap (λ (xs : List ℕ). xs ++ (drop n (drop at front) ++ rest)) (sym (is ∙ ap (take n) all))
    ∙ ap (λ (xs : List ℕ). part ++ (xs ++ rest)) (drop-drop n at front)

part_taken : (from n more : ℕ) (body : List ℕ) → take (n + more) (drop from body) ≡ take n (drop from body) ++ take more (drop (from + n) body)
part_taken from n more body =
    sym (take-append-drop n (take (n + more) (drop from body)))
    ∙ ap (λ (xs : List ℕ). xs ++ drop n (take (n + more) (drop from body))) front
    ∙ ap (λ (xs : List ℕ). take n (drop from body) ++ xs) (drop-take n more (drop from body) ∙ ap (take more) (drop-drop n from body))
  where
    front : take n (take (n + more) (drop from body)) ≡ take n (drop from body)
    front = grind (arith, common_steps)

-- a part of the record is given, behind the descriptors
pub from_body : (at from end n : ℕ) (front body part : List ℕ) → length front ≤ at → from + n ≤ end → part ≡ take n (take (end - from) (drop from body))
    → drop at front ++ take (end - from) (drop from body) ≡ part ++ (drop at front ++ take (end - (from + n)) (drop (from + n) body))
from_body at from end n front body part over within is =
    let none : drop at front ≡ [] = grind (arith, common_steps) in
    let sum : end - from ≡ n + (end - (from + n)) = omega (arith, within) in
    let first : take n (take (end - from) (drop from body)) ≡ take n (drop from body) = grind (arith, common_steps) in
    rw none (ap (λ (k : ℕ). take k (drop from body)) sum ∙ part_taken from n (end - (from + n)) body
    ∙ ap (λ (xs : List ℕ). xs ++ take (end - (from + n)) (drop (from + n) body)) (sym (is ∙ first)))
