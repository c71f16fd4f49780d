use Rattle.std.proofs.Common.{◌∙◌, ap, drop, ◌+◌}
use Rattle.clap.specs.Words.{App, app_of}
use Rattle.cob_program_options.specs.Rules.{with_options}
use Rattle.cob_program_options.specs.Definitions.{options_of}
use Rattle.cob_program_options.proofs.Defined.{next_group}
use Rattle.cob_program_options.proofs.adding.with_groups.Goals as goal

pub loop-group-preserved : goal.loop-group-preserved
loop-group-preserved c =
    let groups = c.args.groups.now in
    let i = c.loop-group.group-index in
    ap (λ (a : App). with_options a (options_of (drop (i + 1) groups))) c.in_ok-command.ensures
    ∙ (next_group (app_of c.loop-group.command) groups i _ c.loop-group-test.true ∙ c.loop-group.invariant)
