-- What options name.
use Rattle.std.specs.Prelude.{◌≡◌, Bool, true, false, is_some, [], ◌∷◌, None, Option, codes, ⊤}
use Rattle.std.specs.Option.{option_map_or}
use Rattle.std.specs.Str.{bytes_eq}
use Rattle.clap.specs.Words.{Text, first_of, found_of, rows_of}
use Rattle.clap.specs.declared.parser.matches.ArgMatches.{ArgMatches}
use Rattle.cob_program_options.specs.Options.{Default, OptionKind, Options, Required, found_at}

-- what options name, by the name of each
abbrev pub Look : Type 0
Look = Text → Option Text

-- what the parser found of each option
abbrev pub look_of : ArgMatches → Look
look_of options = λ name. first_of name (rows_of (found_of options))

-- a flag was given
abbrev pub is_flagged : Text → Look → Bool
is_flagged name look = option_map_or (λ value. bytes_eq value (codes "true")) (look name) false

-- an option that takes a value, and has to be there or has a default, has one
abbrev pub IsNamed : OptionKind → Text → Look → Type 0
IsNamed Required name look = is_some (look name) ≡ true
IsNamed (Default value) name look = is_some (look name) ≡ true
IsNamed kind name look = ⊤

-- each of these options names what it has to
abbrev pub AreNamed : Options → Look → Type 0
AreNamed [] look = ⊤
AreNamed (option ∷ options) look = IsNamed option.1 option.0 look × AreNamed options look

-- a name that is none of an option names nothing
abbrev pub AreAll : Options → Look → Type 0
AreAll options look = (name : Text) → found_at name options ≡ None → look name ≡ None
