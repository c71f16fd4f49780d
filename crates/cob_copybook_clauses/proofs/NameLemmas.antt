-- The characters of a name.
use Rattle.std.proofs.Common.{rules, ◌≡◌, ◌≢◌, ℕ, Bool, true, List, [], ◌∷◌, ◌++◌, refl}
use Rattle.std.specs.List.{AllByRecursion, list_all}
use Rattle.cob_copybook_clauses.specs.Names.{EndsAsName}

pub all_true : (p : ℕ → Bool) (xs : List ℕ) → list_all p xs ≡ true → AllByRecursion (λ c. p c ≡ true) xs
all_true p [] e = tt
all_true p (x ∷ xs) e = search (rules, all_true p xs)

pub all_tested : (p : ℕ → Bool) (xs : List ℕ) → AllByRecursion (λ c. p c ≡ true) xs → list_all p xs ≡ true
all_tested p [] h = refl
all_tested p (x ∷ xs) h = search (rules, all_tested p xs)

pub ends : (front : List ℕ) (c : ℕ) → c ≢ 45 → EndsAsName (front ++ c ∷ [])
ends [] c h = h
ends (x ∷ []) c h = h
ends (x ∷ y ∷ more) c h = ends (y ∷ more) c h

pub end_of : (front : List ℕ) (c : ℕ) → EndsAsName (front ++ c ∷ []) → c ≢ 45
end_of [] c h = h
end_of (x ∷ []) c h = h
end_of (x ∷ y ∷ more) c h = end_of (y ∷ more) c h
