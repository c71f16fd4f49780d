-- The program's commands with their options, as the parser of command lines sees them.
use Rattle.std.specs.Prelude.{◌≡◌, IfOk, Result, true, [], ◌∷◌, codes}
use Rattle.clap.specs.Words.{App, app_of, new_app, with_subcommand}
use Rattle.clap.specs.declared.builder.command.Command.{Command}
use Rattle.cob_program_options.specs.Rules.{command_app}
use Rattle.cob_program_options.specs.Commands.{Commands, commands}

-- what is made, where there was memory, is a command that the parser sees as this
abbrev pub Makes : {E : Type 0} → App → Result Command E → Type 0
Makes app made = IfOk made (λ command. app_of command ≡ app)

-- the program without its commands: a command has to be named, and the words begin behind the program's name
abbrev pub bare_app : App
bare_app = record (new_app (codes "cobconv")) {
  top = record (new_app (codes "cobconv")).top {
    has_version = true;
    no_binary_name = true;
    subcommand_required = true;
    disable_help_subcommand = true;
  };
}

-- a program with these commands more
abbrev pub with_commands : App → Commands → App
with_commands app [] = app
with_commands app (command ∷ commands) = with_commands (with_subcommand app (command_app command.0 command.1).top) commands

-- the program with its commands
abbrev pub program_app : App
program_app = with_commands bare_app commands
