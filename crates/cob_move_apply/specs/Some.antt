-- Things of which one is so.
use Rattle.std.specs.Prelude.{◌⊎◌, List, [], ◌∷◌}

-- one of these is so
abbrev pub SomeOf : {A : Type 0} → (A → Type 0) → List A → Type 0
SomeOf P [] = ⊥
SomeOf P (x ∷ xs) = P x ⊎ SomeOf P xs
