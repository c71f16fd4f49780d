use Rattle.std.proofs.Common.{◌∙◌, ap, drop, ◌+◌}
use Rattle.clap.specs.Words.{App, app_of}
use Rattle.cob_program_options.specs.Definitions.{commands_in}
use Rattle.cob_program_options.specs.Program.{with_commands}
use Rattle.cob_program_options.proofs.Defined.{next_command}
use Rattle.cob_program_options.proofs.commands.with_commands.Goals as goal

pub loop-definition-preserved : goal.loop-definition-preserved
loop-definition-preserved c =
    let definitions = c.args.definitions.now in
    let i = c.loop-definition.definition-index in
    ap (λ (a : App). with_commands a (commands_in (drop (i + 1) definitions))) c.in_ok-program.ensures
    ∙ (next_command (app_of c.loop-definition.program) definitions i _ c.loop-definition-test.true ∙ c.loop-definition.invariant)
