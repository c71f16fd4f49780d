use Rattle.std.proofs.Common.{◌≡◌, drop}
use Rattle.clap.specs.Words.{app_of}
use Rattle.cob_program_options.specs.Rules.{with_options}
use Rattle.cob_program_options.specs.Definitions.{options_of}
use Rattle.cob_program_options.proofs.adding.with_groups.Given as goal

abbrev pub invariant-loop-group : goal.invariant-loop-group
invariant-loop-group l = with_options (app_of l.command) (options_of (drop l.group-index l.groups)) ≡ with_options (app_of l.initial.command) (options_of l.groups)
