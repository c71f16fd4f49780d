use Rattle.std.proofs.Common.{codes, inl, inr, refl, ◌∙◌}
use Rattle.cob_program_line.specs.Faults.{HasPiece}
use Rattle.cob_program_options.specs.Looks.{Look, look_of}
use Rattle.cob_program_line.specs.declared.fault.LineFault.TheVariants.{Number}
use Rattle.cob_program_line.proofs.Apps.{before_counts, before_listing, before_piece, chosen, fault_is, told}
use Rattle.cob_program_line.proofs.commands.convert_line.Goals as goal

pub returns-in_err-piece-clause-lacks : goal.returns-in_err-piece-clause-lacks
returns-in_err-piece-clause-lacks c =
    told c.from_residual-in_err-piece.result _ _ (λ fault is line says. c.in_err-piece.ensures.lacks line.from line.bytes line.first says.piece)
    c.from_residual-in_err-piece.ensures.1

pub choice_of-requires-clause-before : goal.choice_of-requires-clause-before
choice_of-requires-clause-before c =
    let look : Look = look_of c.args.options.now in
    before_counts look _ _ _ c.in_ok-piece.ensures.named
    (before_piece look (c.requires.only (codes "as") refl) (before_listing look _ (c.requires.only (codes "form") refl) (c.requires.only (codes "right-form") refl) c.in_ok-forms.ensures.named))

pub returns-in_err-choice-clause-lacks : goal.returns-in_err-choice-clause-lacks
returns-in_err-choice-clause-lacks c =
    told c.from_residual-in_err-choice.result _ _ (λ fault is line says. c.in_err-choice.ensures.lacks line.skip line.records says.choice)
    c.from_residual-in_err-choice.ensures.1

pub returns-in_err-most_rejects-clause-fault : goal.returns-in_err-most_rejects-clause-fault
returns-in_err-most_rejects-clause-fault c =
    let look : Look = look_of c.args.options.now in
    let before : HasPiece look = before_counts look _ _ _ c.in_ok-piece.ensures.named
    (before_piece look (c.requires.only (codes "as") refl) (before_listing look _ (c.requires.only (codes "form") refl) (c.requires.only (codes "right-form") refl) c.in_ok-forms.ensures.named)) in
    told c.from_residual-in_err-most_rejects.result _ _
    (λ fault is. fault_is look fault Number (is ∙ c.in_err-most_rejects.ensures.fault.0) (before, inr (inr (inl c.in_err-most_rejects.ensures.fault.1))))
    c.from_residual-in_err-most_rejects.ensures.1

pub lrecl_of-requires : goal.lrecl_of-requires
lrecl_of-requires c =
    let look : Look = look_of c.args.options.now in
    chosen look _ _ _ c.in_ok-choice.ensures.named c.in_ok-most_rejects.ensures.named (c.requires.only (codes "most") refl) (c.requires.only (codes "pieces") refl)
    (before_counts look _ _ _ c.in_ok-piece.ensures.named
    (before_piece look (c.requires.only (codes "as") refl) (before_listing look _ (c.requires.only (codes "form") refl) (c.requires.only (codes "right-form") refl) c.in_ok-forms.ensures.named)))

pub returns-in_err-lrecl-clause-lacks : goal.returns-in_err-lrecl-clause-lacks
returns-in_err-lrecl-clause-lacks c =
    told c.from_residual-in_err-lrecl.result _ _ (λ fault is line says. c.in_err-lrecl.ensures.lacks line.lrecl says.lrecl)
    c.from_residual-in_err-lrecl.ensures.1

pub returns-in_err-forms-clause-lacks : goal.returns-in_err-forms-clause-lacks
returns-in_err-forms-clause-lacks c =
    told c.from_residual.result _ _
    (λ fault is line says. c.in_err-forms.ensures.lacks line.forms says.forms)
    c.from_residual.ensures.1

pub returns-in_err-most_rejects-clause-lacks : goal.returns-in_err-most_rejects-clause-lacks
returns-in_err-most_rejects-clause-lacks c =
    told c.from_residual-in_err-most_rejects.result _ _
    (λ fault is line says. c.in_err-most_rejects.ensures.lacks line.most_rejects says.most_rejects)
    c.from_residual-in_err-most_rejects.ensures.1
