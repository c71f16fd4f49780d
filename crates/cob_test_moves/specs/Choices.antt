use Rattle.std.specs.Prelude.{ℕ, ◌+◌, ◌*◌, ◌<◌, List, [], ◌∷◌}

-- the product of numbers
abbrev pub product : List ℕ → ℕ
product [] = 1
product (n ∷ ns) = n * product ns

-- at each place one choice, of as many as its size says
abbrev pub AreChoices : List ℕ → List ℕ → Type 0
AreChoices [] [] = Unit {0}
AreChoices [] (_ ∷ _) = ⊥
AreChoices (_ ∷ _) [] = ⊥
AreChoices (size ∷ sizes) (choice ∷ choices) = (choice < size) × AreChoices sizes choices

-- the rank of choices among all: those that differ only at the first place follow one another
abbrev pub rank_of : List ℕ → List ℕ → ℕ
rank_of [] _ = 0
rank_of (_ ∷ _) [] = 0
rank_of (size ∷ sizes) (choice ∷ choices) = choice + size * rank_of sizes choices
