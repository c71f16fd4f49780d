use Rattle.std.proofs.Common.{ap, ◌∙◌, ◌≡◌}
use Rattle.std.proofs.lemmas.Result.{IfOk-weaker}
use Rattle.clap.specs.Words.{App, app_of, new_app, with_subcommand}
use Rattle.clap.specs.Simple.{app_of_fields}
use Rattle.cob_program_options.proofs.Plain.{plain_is_local}
use Rattle.cob_program_options.proofs.commands.with_hidden.Goals as goal

pub returns : goal.returns
returns c =
    let command : app_of c.hide.result ≡ new_app c.args.name.now = ap app_of_fields c.hide.ensures ∙ c.new.ensures.app in
    IfOk-weaker c.subcommand.result _ _ (λ made h. h.shape (plain_is_local _ (ap (λ (it : App). it.top.is_plain) command))
    ∙ ap (λ (it : App). with_subcommand (app_of c.args.program) it.top) command) c.subcommand.ensures
