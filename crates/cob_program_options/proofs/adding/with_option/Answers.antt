use Rattle.std.proofs.Common.{◌∙◌}
use Rattle.std.proofs.lemmas.Result.{IfOk-weaker}
use Rattle.clap.specs.Words.{app_of}
use Rattle.cob_program_options.proofs.adding.with_option.Goals as goal

pub returns : goal.returns
returns c = IfOk-weaker c.arg.result _ _ (λ made h. h.shape c.argument.ensures.local ∙ c.argument.ensures.rule (app_of c.args.command)) c.arg.ensures
