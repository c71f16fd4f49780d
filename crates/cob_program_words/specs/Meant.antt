-- What words mean: a question for help, and options by other names.
use Rattle.std.specs.Prelude.{◌==◌, ℕ, ◌&&◌, ◌||◌, Bool, List, [], ◌∷◌, ◌++◌, Option, Some, None, codes, if◌then◌else◌, length, map, nat_lt}
use Rattle.std.specs.List.{after_first, before_first, position_or_len}
use Rattle.std.specs.Option.{option_map_or}
use Rattle.std.specs.Str.{bytes_eq}

-- a word: the bytes of its text
abbrev pub Text : Type 0
Text = List ℕ

-- the byte is =, which may part an option from its value in one word
abbrev pub parts : ℕ → Bool
parts byte = byte == 61

-- an option with its hyphens, without the value that may stand in its word
abbrev pub option_in : Text → Text
option_in word = before_first parts word

-- the word with this option in the place of its own
abbrev pub with_option_in : (option word : Text) → Text
with_option_in option word = if nat_lt (position_or_len parts word) (length word) then option ++ 61 ∷ after_first parts word else option

-- the command has one copybook
abbrev pub has_one_book : Text → Bool
has_one_book command = bytes_eq command (codes "layout") || bytes_eq command (codes "show") || bytes_eq command (codes "compare") || bytes_eq command (codes "pieces")

-- the command has one copybook, and a form
abbrev pub has_one_form : Text → Bool
has_one_form command = bytes_eq command (codes "show") || bytes_eq command (codes "compare") || bytes_eq command (codes "pieces")

-- The option of a command that is meant by one of another name, as commands with two copybooks have it.
abbrev pub meant_option : (command option : Text) → Option Text
meant_option command option =
    if bytes_eq option (codes "--in-book") && has_one_book command then Some (codes "--book")
    else (if bytes_eq option (codes "--in-form") && has_one_form command then Some (codes "--form") else None)

-- the word that is meant by a word behind the name of a command
abbrev pub meant_word : (command word : Text) → Text
meant_word command word = option_map_or (λ option. with_option_in option word) (meant_option command (option_in word)) word

-- the words of a command with its options by their own names
abbrev pub meant_options : List Text → List Text
meant_options [] = []
meant_options (command ∷ words) = command ∷ map (meant_word command) words

-- The words that words mean: help before others asks for their help, and the options of a command have their own names.
abbrev pub meant : List Text → List Text
meant [] = []
meant (first ∷ words) = if bytes_eq first (codes "help") then meant_options words ++ codes "--help" ∷ [] else meant_options (first ∷ words)
