-- The options that the words of a command give.
use Rattle.std.specs.Prelude.{◌≡◌, ◌==◌, ◌&&◌, Bool, true, false, not, List, [], ◌∷◌, ◌++◌, length, Option, Some, None, option_map, codes, find, ⊤}
use Rattle.std.specs.Option.{option_or}
use Rattle.std.specs.Str.{bytes_eq, chars}
use Rattle.clap.specs.Words.{Text}

-- How an option stands in words: with a value, and then it has to be there, has a default, or may be left out; alone; or in the place of a command
-- line, as a request for help.
pub data OptionKind : Type 0 where
  Required : OptionKind
  Default : Text → OptionKind
  Optional : OptionKind
  Alone : OptionKind
  Request : OptionKind

-- options by their names, each with how it stands
abbrev pub Options : Type 0
Options = List (Text × OptionKind)

-- the options that words give, each with its value; that of an option that stands alone is "true"
abbrev pub Given : Type 0
Given = List (Text × Text)

-- what stands at the first of these names
abbrev pub found_at : {V : Type 0} → Text → List (Text × V) → Option V
found_at name named = option_map (λ it. it.1) (find (λ it. bytes_eq it.0 name) named)

-- an option with a value
abbrev pub takes_value : Option OptionKind → Bool
takes_value (Some Required) = true
takes_value (Some (Default value)) = true
takes_value (Some Optional) = true
takes_value _ = false

-- an option that stands alone
abbrev pub stands_alone : Option OptionKind → Bool
stands_alone (Some Alone) = true
stands_alone _ = false

-- a word that can be the value of the option before it: no hyphen stands at its front with a character behind it
abbrev pub is_value : Text → Bool
is_value [] = true
is_value (first ∷ rest) = not (first == 45 && not (length (chars rest) == 0))

-- the word of an option: two hyphens and its name
abbrev pub option_word : Text → Text
option_word name = 45 ∷ 45 ∷ name

-- Words that are options, in any order and each at most once: a name and a value in two words, or in one with `=` between them, or a name that
-- stands alone. Two hyphens may end them.
pub data AreOptions (options : Options) : List Text → Given → Type 0 where
  none : AreOptions options [] []
  ended : AreOptions options (codes "--" ∷ []) []
  apart : (name value : Text) (words : List Text) (given : Given) → takes_value (found_at name options) ≡ true → is_value value ≡ true
      → found_at name given ≡ None → AreOptions options words given → AreOptions options (option_word name ∷ value ∷ words) ((name, value) ∷ given)
  joined : (name value : Text) (words : List Text) (given : Given) → takes_value (found_at name options) ≡ true
      → found_at name given ≡ None → AreOptions options words given → AreOptions options (option_word (name ++ 61 ∷ value) ∷ words) ((name, value) ∷ given)
  alone : (name : Text) (words : List Text) (given : Given) → stands_alone (found_at name options) ≡ true
      → found_at name given ≡ None → AreOptions options words given → AreOptions options (option_word name ∷ words) ((name, codes "true") ∷ given)

-- what stands for an option that is not given
abbrev pub default_of : Option OptionKind → Option Text
default_of (Some (Default value)) = Some value
default_of (Some Alone) = Some (codes "false")
default_of _ = None

-- what an option names: the value that it is given, or its default
abbrev pub taken : Options → Given → Text → Option Text
taken options given name = option_or (found_at name given) (default_of (found_at name options))

-- an option that has to be there is given
abbrev pub IsThere : OptionKind → Text → Given → Type 0
IsThere Required name given = (value : Text) × (found_at name given ≡ Some value)
IsThere kind name given = ⊤

-- each of these options that has to be there is given
abbrev pub AreThere : Options → Given → Type 0
AreThere [] given = ⊤
AreThere (option ∷ options) given = IsThere option.1 option.0 given × AreThere options given
