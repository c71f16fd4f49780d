use Rattle.std.proofs.Common.{codes, refl}
use Rattle.cob_program_options.specs.Looks.{Look, look_of}
use Rattle.cob_program_line.proofs.Apps.{chosen_alone, show_listing, told}
use Rattle.cob_program_line.proofs.commands.show_line.Goals as goal

pub lrecl_of-requires : goal.lrecl_of-requires
lrecl_of-requires c =
    let look : Look = look_of c.args.options.now in
    chosen_alone look _ _ c.in_ok-choice.ensures.named (c.requires.only (codes "most-rejects") refl) (c.requires.only (codes "most") refl) (c.requires.only (codes "pieces") refl)
    (show_listing look _ _ c.requires.only c.in_ok-form.ensures.named c.in_ok-listing.ensures.named)

pub returns-in_err-lrecl-clause-lacks : goal.returns-in_err-lrecl-clause-lacks
returns-in_err-lrecl-clause-lacks c =
    told c.from_residual-in_err-lrecl.result _ _ (λ fault is line says. c.in_err-lrecl.ensures.lacks line.lrecl says.lrecl)
    c.from_residual-in_err-lrecl.ensures.1

pub returns-in_err-choice-clause-lacks : goal.returns-in_err-choice-clause-lacks
returns-in_err-choice-clause-lacks c =
    told c.from_residual-in_err-choice.result _ _ (λ fault is line says. c.in_err-choice.ensures.lacks line.skip line.records says.choice)
    c.from_residual-in_err-choice.ensures.1
