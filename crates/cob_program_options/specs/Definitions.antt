-- What the tables of options and commands define.
use Rattle.std.specs.Prelude.{List, [], ◌∷◌, ◌++◌, map}
use Rattle.std.specs.Borrow.{Bor}
use Rattle.clap.specs.Words.{Text}
use Rattle.cob_program_options.specs.Options.{Alone, Default, OptionKind, Optional, Options, Required}
use Rattle.cob_program_options.specs.Commands.{Commands, help_options}
use Rattle.cob_program_options.specs.declared.definition.CommandDefinition.{CommandDefinition}
use Rattle.cob_program_options.specs.declared.definition.OptionDefinition.{OptionDefinition}
use Rattle.cob_program_options.specs.declared.definition.Standing.{Standing}
use Rattle.cob_program_options.specs.declared.definition.Standing.TheVariants as standing

-- how an option stands, but for what only help says
abbrev pub kind_of : Standing → OptionKind
kind_of (standing.Required value) = Required
kind_of (standing.Default value word) = Default word.now
kind_of (standing.Optional value) = Optional
kind_of standing.Alone = Alone

-- the option that is defined
abbrev pub option_of : OptionDefinition → Text × OptionKind
option_of option = (option.name.now, kind_of option.standing)

-- the options that are defined
abbrev pub options_in : List OptionDefinition → Options
options_in options = map option_of options

-- the options that are defined in groups
abbrev pub options_of : List (Bor (List OptionDefinition)) → Options
options_of [] = []
options_of (group ∷ groups) = options_in group.now ++ options_of groups

-- the command that is defined, with the request for help, which each command has
abbrev pub command_of : CommandDefinition → Text × Options
command_of command = (command.name.now, options_of command.groups.now ++ help_options)

-- the commands that are defined
abbrev pub commands_in : List CommandDefinition → Commands
commands_in commands = map command_of commands
