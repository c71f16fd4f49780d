use Rattle.std.proofs.Common.{codes, refl}
use Rattle.cob_program_options.specs.Looks.{Look, look_of}
use Rattle.cob_program_line.proofs.Apps.{before_listing, before_piece, one_record, told}
use Rattle.cob_program_line.proofs.commands.explain_line.Goals as goal

pub record_of-requires-clause-before : goal.record_of-requires-clause-before
record_of-requires-clause-before c =
    let look : Look = look_of c.args.options.now in
    before_piece look (c.requires.only (codes "as") refl) (before_listing look _ (c.requires.only (codes "form") refl) (c.requires.only (codes "right-form") refl) c.in_ok-forms.ensures.named)

pub returns-in_err-record-clause-lacks : goal.returns-in_err-record-clause-lacks
returns-in_err-record-clause-lacks c =
    told c.from_residual-in_err-record.result _ _ (λ fault is line says. c.in_err-record.ensures.lacks line.record says.number)
    c.from_residual-in_err-record.ensures.1

pub lrecl_of-requires : goal.lrecl_of-requires
lrecl_of-requires c =
    let look : Look = look_of c.args.options.now in
    one_record look _ c.in_ok-record.ensures.named (c.requires.only (codes "from") refl) (c.requires.only (codes "bytes") refl)
    (c.requires.only (codes "skip") refl) (c.requires.only (codes "records") refl) (c.requires.only (codes "most-rejects") refl) (c.requires.only (codes "most") refl) (c.requires.only (codes "pieces") refl)
    (before_piece look (c.requires.only (codes "as") refl) (before_listing look _ (c.requires.only (codes "form") refl) (c.requires.only (codes "right-form") refl) c.in_ok-forms.ensures.named))

pub returns-in_err-lrecl-clause-lacks : goal.returns-in_err-lrecl-clause-lacks
returns-in_err-lrecl-clause-lacks c =
    told c.from_residual-in_err-lrecl.result _ _ (λ fault is line says. c.in_err-lrecl.ensures.lacks line.lrecl says.lrecl)
    c.from_residual-in_err-lrecl.ensures.1
