use Rattle.std.proofs.Common.{[], ◌∷◌, ◌∙◌, ap, codes}
use Rattle.std.proofs.lemmas.Result.{IfOk-weaker}
use Rattle.clap.specs.Words.{App, with_subcommand}
use Rattle.cob_program_options.specs.Commands.{Commands, check_options, compare_options, convert_options, draft_options, explain_options, help_options, layout_options, lossless_options, map_options, pieces_options, show_options}
use Rattle.cob_program_options.specs.Rules.{command_app}
use Rattle.cob_program_options.specs.Program.{with_commands}
use Rattle.cob_program_options.proofs.commands.program.Goals as goal

-- the commands of which help tells
abbrev told : Commands
told = (codes "convert", convert_options) ∷ (codes "check", check_options) ∷ (codes "layout", layout_options) ∷ (codes "show", show_options)
    ∷ (codes "compare", compare_options) ∷ (codes "pieces", pieces_options) ∷ (codes "lossless", lossless_options)
    ∷ (codes "explain", explain_options) ∷ (codes "draft", draft_options) ∷ (codes "map", map_options) ∷ []

-- a program with those more of which it does not tell
abbrev with_untold : App → App
with_untold app = with_subcommand (with_subcommand app (command_app (codes "completion") help_options).top) (command_app (codes "manual") help_options).top

pub returns : goal.returns
returns c =
    IfOk-weaker c.with_hidden-2.result _ _ (λ made h. h
    ∙ ap (λ (a : App). with_subcommand a (command_app (codes "manual") help_options).top) c.in_ok-program-2.ensures
    ∙ ap with_untold c.in_ok-program.ensures
    ∙ ap (λ (a : App). with_untold (with_commands a told)) c.in_ok-bare.ensures) c.with_hidden-2.ensures
