-- The names that qualify another one.
use Rattle.std.specs.Prelude.{ℕ, List, [], ◌∷◌}

-- the names among words of which each second one is a name, behind OF or IN
abbrev pub linked_names : List (List ℕ) → List (List ℕ)
linked_names [] = []
linked_names (w ∷ []) = []
linked_names (w ∷ name ∷ ws) = name ∷ linked_names ws
