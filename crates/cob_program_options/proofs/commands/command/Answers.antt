use Rattle.std.proofs.Common.{ap, sym, ◌∙◌}
use Rattle.std.proofs.lemmas.Result.{IfOk-weaker}
use Rattle.clap.specs.Words.{App, new_app}
use Rattle.cob_program_options.specs.Rules.{with_options}
use Rattle.cob_program_options.specs.Definitions.{options_of}
use Rattle.cob_program_options.proofs.Defined.{with_help}
use Rattle.cob_program_options.proofs.commands.command.Goals as goal

pub returns : goal.returns
returns c =
    let options = options_of c.args.definition.now.groups.now in
    IfOk-weaker c.with_groups.result _ _ (λ made h. h ∙ ap (λ (a : App). with_options a options) c.described.ensures
    ∙ sym (with_help (new_app c.args.definition.now.name.now) options)) c.with_groups.ensures
