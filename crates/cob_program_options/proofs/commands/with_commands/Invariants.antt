use Rattle.std.proofs.Common.{◌≡◌, drop}
use Rattle.clap.specs.Words.{app_of}
use Rattle.cob_program_options.specs.Definitions.{commands_in}
use Rattle.cob_program_options.specs.Program.{with_commands}
use Rattle.cob_program_options.proofs.commands.with_commands.Given as goal

abbrev pub invariant-loop-definition : goal.invariant-loop-definition
invariant-loop-definition l = with_commands (app_of l.program) (commands_in (drop l.definition-index l.definitions)) ≡ with_commands (app_of l.initial.program) (commands_in l.definitions)
