-- Two lists of which it is asked, item by item, whether they are one by what is seen of each.
use Rattle.std.proofs.Common.{ℕ, List, drop, map}

-- what is left of both is the same exactly where all is
abbrev pub Both : Type 0 → Type 0 → Type 0
Both P Q = (P → Q) × (Q → P)

-- what is seen of the items from a place on
abbrev pub left : {A B : Type 0} → (A → B) → List A → ℕ → List B
left v xs k = map v (drop k xs)
