use Rattle.cob_program_options.specs.Looks.{Look, look_of}
use Rattle.cob_program_line.proofs.Apps.{cut_in, pieces_form, told}
use Rattle.cob_program_line.proofs.commands.pieces_line.Goals as goal

pub lrecl_of-requires : goal.lrecl_of-requires
lrecl_of-requires c =
    let look : Look = look_of c.args.options.now in
    cut_in look _ c.in_ok-pieces.ensures.named (pieces_form look _ c.requires.only c.in_ok-form.ensures.named)

pub returns-in_err-lrecl-clause-lacks : goal.returns-in_err-lrecl-clause-lacks
returns-in_err-lrecl-clause-lacks c =
    told c.from_residual-in_err-lrecl.result _ _ (λ fault is line says. c.in_err-lrecl.ensures.lacks line.lrecl says.lrecl)
    c.from_residual-in_err-lrecl.ensures.1
