use Rattle.std.proofs.Common.{◌∙◌, ap, drop, ◌+◌}
use Rattle.clap.specs.Words.{App, app_of}
use Rattle.cob_program_options.specs.Rules.{with_options}
use Rattle.cob_program_options.specs.Definitions.{options_in}
use Rattle.cob_program_options.proofs.Defined.{next_option}
use Rattle.cob_program_options.proofs.adding.with_options.Goals as goal

pub loop-option-preserved : goal.loop-option-preserved
loop-option-preserved c =
    let options = c.args.options.now in
    let i = c.loop-option.option-index in
    ap (λ (a : App). with_options a (options_in (drop (i + 1) options))) c.in_ok-command.ensures
    ∙ (next_option (app_of c.loop-option.command) options i _ c.loop-option-test.true ∙ c.loop-option.invariant)
