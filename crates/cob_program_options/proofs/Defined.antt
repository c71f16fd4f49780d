-- Commands with the options that tables define.
use Rattle.std.proofs.Common.{◌≡◌, ◌∙◌, true, refl, sym, List, [], ◌∷◌, ◌++◌, ℕ, ◌<◌, ◌+◌, drop, length, get_or}
use Rattle.std.proofs.lemmas.List.{at_drop_more}
use Rattle.std.specs.Borrow.{Bor}
use Rattle.clap.specs.Words.{App, Text, new_app, with_subcommand}
use Rattle.cob_program_options.specs.Options.{Alone, Default, OptionKind, Optional, Options, Request, Required}
use Rattle.cob_program_options.specs.Rules.{command_app, with_option, with_options}
use Rattle.cob_program_options.specs.Commands.{help_options}
use Rattle.cob_program_options.specs.Definitions.{command_of, commands_in, kind_of, options_in, options_of}
use Rattle.cob_program_options.specs.Program.{with_commands}
use Rattle.cob_program_options.specs.declared.definition.CommandDefinition.{CommandDefinition}
use Rattle.cob_program_options.specs.declared.definition.OptionDefinition.{OptionDefinition}

-- options behind options
behind : (app : App) (options more : Options) → with_options app (options ++ more) ≡ with_options (with_options app options) more
behind app [] more = refl
behind app (option ∷ options) more = behind (with_option app option.0 option.1) options more

-- an option, and those behind it
pub next_option : (app : App) (options : List OptionDefinition) (i : ℕ) (d : OptionDefinition) → i < length options
    → with_options (with_option app (get_or options i d).name.now (kind_of (get_or options i d).standing)) (options_in (drop (i + 1) options))
    ≡ with_options app (options_in (drop i options))
next_option app options i d lt = sym (at_drop_more (λ (os : List OptionDefinition). with_options app (options_in os)) options i d lt)

-- the options of a group, and of the groups behind it
pub next_group : (app : App) (groups : List (Bor (List OptionDefinition))) (i : ℕ) (d : Bor (List OptionDefinition)) → i < length groups
    → with_options (with_options app (options_in (get_or groups i d).now)) (options_of (drop (i + 1) groups)) ≡ with_options app (options_of (drop i groups))
next_group app groups i d lt = sym (at_drop_more (λ (gs : List (Bor (List OptionDefinition))). with_options app (options_of gs)) groups i d lt
    ∙ behind app (options_in (get_or groups i d).now) (options_of (drop (i + 1) groups)))

-- the request for help is the parser's own
pub with_help : (app : App) (options : Options) → with_options app (options ++ help_options) ≡ with_options app options
with_help app options = behind app options help_options

-- a command with options more is as plain as before
option_is_plain : (app : App) (name : Text) (kind : OptionKind) → (with_option app name kind).top.is_plain ≡ app.top.is_plain
option_is_plain app name Required = refl
option_is_plain app name (Default value) = refl
option_is_plain app name Optional = refl
option_is_plain app name Alone = refl
option_is_plain app name Request = refl

are_plain : (app : App) (options : Options) → (with_options app options).top.is_plain ≡ app.top.is_plain
are_plain app [] = refl
are_plain app (option ∷ options) = are_plain (with_option app option.0 option.1) options ∙ option_is_plain app option.0 option.1

pub command_is_plain : (name : Text) (options : Options) → (command_app name options).top.is_plain ≡ true
command_is_plain name options = are_plain (new_app name) options

-- a command, and those behind it
pub next_command : (app : App) (definitions : List CommandDefinition) (i : ℕ) (d : CommandDefinition) → i < length definitions
    → (let defined = command_of (get_or definitions i d) in
    with_commands (with_subcommand app (command_app defined.0 defined.1).top) (commands_in (drop (i + 1) definitions))
    ≡ with_commands app (commands_in (drop i definitions)))
next_command app definitions i d lt = sym (at_drop_more (λ (ds : List CommandDefinition). with_commands app (commands_in ds)) definitions i d lt)
