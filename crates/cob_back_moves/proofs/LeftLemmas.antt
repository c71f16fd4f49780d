-- Lists that are gone through from the front: what is left of one, and all of it.
use Rattle.std.proofs.Common.{◌≡◌, Bool, true, false, List, [], ◌∷◌, refl, sym, subst}
use Rattle.std.specs.Bool.{Decides}
use Rattle.std.specs.List.{AllByRecursion}

-- the one follows from the other, both ways
abbrev pub Both : Type 0 → Type 0 → Type 0
Both P Q = (P → Q) × (Q → P)

pub never : (P : Type 0) → (P → ⊥) → Decides false P
never P h = (λ is. absurd (cc), λ p. absurd (h p))

-- ---- each is so

-- the next one is, and those behind it
pub next_is : {A : Type 0} (P : A → Type 0) (now later : List A) (x : A) → now ≡ x ∷ later → AllByRecursion P now → P x × AllByRecursion P later
next_is {A} P now later x is h = subst (λ (xs : List A). AllByRecursion P xs) is h

pub each_next : {A : Type 0} (P : A → Type 0) (now later : List A) (x : A) (t : Bool) (W : Type 0) → now ≡ x ∷ later → t ≡ true → Decides t (P x) → Both (AllByRecursion P now) W
    → Both (AllByRecursion P later) W
each_next {A} P now later x t W is met (has, only) (goes, back) = (
  λ h. goes (subst (λ (xs : List A). AllByRecursion P xs) (sym is) (has met, h)),
  λ w. (next_is P now later x is (back w)).1,
)

pub each_fails : {A : Type 0} (P : A → Type 0) (now later : List A) (x : A) (t : Bool) (W : Type 0) → now ≡ x ∷ later → t ≡ false → Decides t (P x) → Both (AllByRecursion P now) W
    → Decides false W
each_fails {A} P now later x t W is fails (has, only) (goes, back) = never W (λ w. let met : t ≡ true = only (next_is P now later x is (back w)).0 in cc)

pub each_none : {A : Type 0} (P : A → Type 0) (now : List A) (W : Type 0) → now ≡ [] → Both (AllByRecursion P now) W → Decides true W
each_none {A} P now W none (goes, back) = (λ is. goes (subst (λ (xs : List A). AllByRecursion P xs) (sym none) tt), λ w. refl)
