use Rattle.std.proofs.Common.{◌≡◌, drop}
use Rattle.clap.specs.Words.{app_of}
use Rattle.cob_program_options.specs.Rules.{with_options}
use Rattle.cob_program_options.specs.Definitions.{options_in}
use Rattle.cob_program_options.proofs.adding.with_options.Given as goal

abbrev pub invariant-loop-option : goal.invariant-loop-option
invariant-loop-option l = with_options (app_of l.command) (options_in (drop l.option-index l.options)) ≡ with_options (app_of l.initial.command) (options_in l.options)
