-- Facts about lists and tests of numbers.
use Rattle.std.proofs.Common.{◌≡◌, sym, ap, ◌∙◌, ℕ, ◌+◌, ◌<◌, ◌==◌, List, [], ◌∷◌, ◌++◌, drop, arith, true, false, refl, Bool, Option, None}
use Rattle.std.specs.Prelude.{filter}
use Rattle.std.specs.List.{AllByRecursion}
use Rattle.std.proofs.lemmas.Bool.Decides.{nat_tests}
use Rattle.std.proofs.lemmas.List.{get_or-drop, drop-drop}
use Rattle.cob_copybook_tree.specs.Resolving.{count_at}

pub all_append : {X : Type 0} (P : X → Type 0) (xs ys : List X) → AllByRecursion P xs → AllByRecursion P ys → AllByRecursion P (xs ++ ys)
all_append P [] ys h k = k
all_append P (x ∷ xs) ys h k = (h.0, all_append P xs ys h.1 k)

kept : {X : Type 0} (P : X → Type 0) (f : X → Bool) (x : X) (xs : List X) (t : Bool) → f x ≡ t → P x → AllByRecursion P (filter f xs) → AllByRecursion P (filter f (x ∷ xs))
kept P f x xs true e h k = rw e (h, k)
kept P f x xs false e h k = rw e k

-- what is so of all is so of those that are kept
pub all_kept : {X : Type 0} (P : X → Type 0) (f : X → Bool) (xs : List X) → AllByRecursion P xs → AllByRecursion P (filter f xs)
all_kept P f [] h = tt
all_kept P f (x ∷ xs) h = kept P f x xs (f x) refl h.0 (all_kept P f xs h.1)

pub all_map : {X : Type 0} (P Q : X → Type 0) (xs : List X) → ((x : X) → P x → Q x) → AllByRecursion P xs → AllByRecursion Q xs
all_map P Q [] f h = tt
all_map P Q (x ∷ xs) f h = (f x h.0, all_map P Q xs f h.1)

-- the first of the counts that are left stands at that place
pub first_left : (cs more : List (Option ℕ)) (n : ℕ) (c : Option ℕ) → drop n cs ≡ c ∷ more → count_at cs n ≡ c
first_left cs more n c h =
    ap (λ (k : ℕ). count_at cs k) (omega arith) ∙ sym (get_or-drop n cs 0 None) ∙ ap (λ (ds : List (Option ℕ)). count_at ds 0) h

-- and the others are left behind it
pub others_left : (cs more : List (Option ℕ)) (n : ℕ) (c : Option ℕ) → drop n cs ≡ c ∷ more → drop (n + 1) cs ≡ more
others_left cs more n c h = sym (drop-drop 1 n cs) ∙ ap (λ (ds : List (Option ℕ)). drop 1 ds) h

pub same : (a : ℕ) → (a == a) ≡ true
same a = grind (arith, nat_tests)

pub differs : (a b : ℕ) → a < b → (a == b) ≡ false
differs a b h = grind (arith, nat_tests)
