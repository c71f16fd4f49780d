-- Options and their commands, as the parser of command lines sees them.
use Rattle.std.specs.Prelude.{true, [], ◌∷◌, Some}
use Rattle.clap.specs.Words.{App, Rule, Text, new_app, new_rule, with_rule}
use Rattle.clap.specs.declared.builder.action.ArgAction.TheVariants.{SetTrue}
use Rattle.cob_program_options.specs.Options.{Alone, Default, OptionKind, Optional, Options, Request, Required}

-- an option that has to be there, with a value
abbrev pub required_rule : Text → Rule
required_rule name = record (new_rule name) { long = Some name; value_names = 1; required = true }

-- an option with a value, in whose place this word stands where the option is not there
abbrev pub default_rule : (name value : Text) → Rule
default_rule name value = record (new_rule name) { long = Some name; value_names = 1; defaults = value ∷ [] }

-- an option with a value that may be left out
abbrev pub optional_rule : Text → Rule
optional_rule name = record (new_rule name) { long = Some name; value_names = 1 }

-- an option that stands alone
abbrev pub alone_rule : Text → Rule
alone_rule name = record (new_rule name) { long = Some name; action = Some SetTrue }

-- a command with one option more; the request for help is the parser's own
abbrev pub with_option : App → Text → OptionKind → App
with_option app name Required = with_rule app (required_rule name)
with_option app name (Default value) = with_rule app (default_rule name value)
with_option app name Optional = with_rule app (optional_rule name)
with_option app name Alone = with_rule app (alone_rule name)
with_option app name Request = app

-- a command with these options more
abbrev pub with_options : App → Options → App
with_options app [] = app
with_options app (option ∷ options) = with_options (with_option app option.0 option.1) options

-- a command of this name with these options
abbrev pub command_app : Text → Options → App
command_app name options = with_options (new_app name) options
