-- The elements of a list, one after another, and what a function makes of them.
use Rattle.std.proofs.Common.{◌≡◌, ℕ, ◌+◌, ◌<◌, ◌≤◌, List, ◌∷◌, length, get_or, drop, map, sym, ap, subst, ◌∙◌, arith}
use Rattle.std.proofs.lemmas.List.{drop_more, get_or_default, length-map, get_or-map}
use Rattle.std.specs.List.{AllByRecursion}

pub below : {A B : Type 0} (f : A → B) (xs : List A) (i : ℕ) → i < length xs → i < length (map f xs)
below f xs i lt = omega (arith, lt, length-map xs f)

pub past : {A B : Type 0} (f : A → B) (xs : List A) (i : ℕ) → length xs ≤ i → length (map f xs) ≤ i
past f xs i le = omega (arith, le, length-map xs f)

pub at : {A B : Type 0} (f : A → B) (xs : List A) (i : ℕ) (x : A) → i < length xs → x ≡ get_or xs i x → f x ≡ get_or (map f xs) i (f x)
at f xs i x lt is = ap f is ∙ sym (get_or-map f xs i x (f x) lt)

-- an element that is read is itself, whatever stands for those that aren't there
pub read_is : {A : Type 0} (xs : List A) (i : ℕ) (d : A) → i < length xs → get_or xs i d ≡ get_or xs i (get_or xs i d)
read_is xs i d lt = get_or_default xs i d (get_or xs i d) lt

pub next : {A : Type 0} (xs : List A) (i : ℕ) (x : A) → i < length xs → x ≡ get_or xs i x → drop i xs ≡ x ∷ drop (i + 1) xs
next xs i x lt is = drop_more xs i x lt ∙ ap (λ y. y ∷ drop (i + 1) xs) (sym is)

pub left_first : {A : Type 0} (P : A → Type 0) (xs : List A) (i : ℕ) (x : A) → i < length xs → x ≡ get_or xs i x → AllByRecursion P (drop i xs) → P x
left_first {A} P xs i x lt is h = let all = subst (λ (ys : List A). AllByRecursion P ys) (next xs i x lt is) h in all.0

pub left_more : {A : Type 0} (P : A → Type 0) (xs : List A) (i : ℕ) (x : A) → i < length xs → x ≡ get_or xs i x → AllByRecursion P (drop i xs)
    → AllByRecursion P (drop (i + 1) xs)
left_more {A} P xs i x lt is h = let all = subst (λ (ys : List A). AllByRecursion P ys) (next xs i x lt is) h in all.1
