-- The names of the files and folders beside an output.
use Rattle.std.specs.Prelude.{List, ℕ, [], ◌∷◌, ◌++◌, Option, None, Some}
use Rattle.std.specs.Path.{path_parent}

-- The name of an output's part is the output's name with `.part` behind it.
abbrev pub name_of_part : List ℕ → List ℕ
name_of_part name = name ++ (46 ∷ 112 ∷ 97 ∷ 114 ∷ 116 ∷ [])

-- the folder of this name; `.`, where the program runs, for none
abbrev pub or_here : List ℕ → List ℕ
or_here [] = 46 ∷ []
or_here (first ∷ rest) = first ∷ rest

-- the folder that a file of this name stands in, by what of the name is in front of its last part
abbrev pub folder_before : Option (List ℕ) → List ℕ
folder_before None = 46 ∷ []
folder_before (Some front) = or_here front

-- The folder that a file of this name stands in.
abbrev pub folder_name : List ℕ → List ℕ
folder_name name = folder_before (path_parent name)
