use Rattle.std.proofs.Common.{rules}
use Rattle.cob_program_options.specs.Commands.{commands}
use Rattle.cob_program_line.proofs.Spelled.{IsNone, no_command}
use Rattle.cob_program_line.proofs.commands.command_line.Goals as goal

pub unreachable-requires : goal.unreachable-requires
unreachable-requires c =
    let other = c.in_default in
    let none : IsNone c.args.name.now commands = search rules in
    no_command commands c.args.name.now c.requires.0 none c.requires.1
