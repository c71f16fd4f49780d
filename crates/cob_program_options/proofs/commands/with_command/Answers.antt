use Rattle.std.proofs.Common.{ap, ◌∙◌}
use Rattle.std.proofs.lemmas.Result.{IfOk-weaker}
use Rattle.clap.specs.Words.{App, app_of, with_subcommand}
use Rattle.cob_program_options.specs.Definitions.{command_of}
use Rattle.cob_program_options.proofs.Defined.{command_is_plain}
use Rattle.cob_program_options.proofs.Plain.{plain_is_local}
use Rattle.cob_program_options.proofs.commands.with_command.Goals as goal

pub returns : goal.returns
returns c =
    let defined = command_of c.args.definition.now in
    IfOk-weaker c.subcommand.result _ _ (λ made h. h.shape (plain_is_local _ (ap (λ (it : App). it.top.is_plain) c.in_ok-command.ensures ∙ command_is_plain defined.0 defined.1))
    ∙ ap (λ (it : App). with_subcommand (app_of c.args.program) it.top) c.in_ok-command.ensures) c.subcommand.ensures
