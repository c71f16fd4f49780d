use Rattle.std.proofs.Common.{sym, subst}
use Rattle.std.proofs.lemmas.Result.{err_from_is_err_and}
use Rattle.cob_move.specs.Paragraphs.{IsParagraphOf}
use Rattle.cob_move_deeds.specs.Prepared.{AreDeedsPrepared, HaveAllMoves, deeds_of}
use Rattle.cob_convert_record.specs.Conversion.{Conversion}
use Rattle.cob_move_names.specs.Valued.{plain_names}
use Rattle.cob_convert.proofs.Refused.{paragraph_refused, paragraph_too, refusal_too, refused_memory}
use Rattle.cob_convert.proofs.converter.conversion_of.Goals as goal

pub returns-in_err-paragraph-clause-only : goal.returns-in_err-paragraph-clause-only
returns-in_err-paragraph-clause-only c = λ d is.
    let p = err_from_is_err_and c.from_residual-in_err-paragraph.result c.from_residual-in_err-paragraph.ensures.1 in
    let between = paragraph_too c.args.moves.now _ _ _ _ (plain_names c.args.names) d c.in_ok-in_layout.ensures c.in_ok-out_layout.ensures.layout is in
    rw (p.1, p.2) (refused_memory c.in_err-paragraph.field-0.0 (c.in_err-paragraph.ensures.only d between).1)

pub returns-in_err-paragraph-clause-refused : goal.returns-in_err-paragraph-clause-refused
returns-in_err-paragraph-clause-refused c =
    let p = err_from_is_err_and c.from_residual-in_err-paragraph.result c.from_residual-in_err-paragraph.ensures.1 in
    rw (p.1, p.2) (paragraph_refused c.in_err-paragraph.field-0.0 c.args.moves.now c.args.input c.args.output (plain_names c.args.names)
    (refusal_too c.in_err-paragraph.field-0.0 c.args.moves.now _ _ _ _ (plain_names c.args.names) c.in_ok-in_layout.ensures c.in_ok-out_layout.ensures.layout c.in_err-paragraph.ensures.fault))

pub new-requires-clause-deeds : goal.new-requires-clause-deeds
new-requires-clause-deeds c =
    subst (λ d. AreDeedsPrepared (record { input = c.in_ok-in_layout.in_layout; output = c.in_ok-out_layout.out_layout }) d) (sym c.into_deeds.ensures) c.in_ok-paragraph.ensures.ready.prepared

pub new-requires-clause-whole : goal.new-requires-clause-whole
new-requires-clause-whole c =
    subst (λ d. HaveAllMoves (record { input = c.in_ok-in_layout.in_layout; output = c.in_ok-out_layout.out_layout }) d) (sym c.into_deeds.ensures) c.in_ok-paragraph.ensures.ready.all

pub returns-clause-paragraph : goal.returns-clause-paragraph
returns-clause-paragraph c =
    subst (λ (made : Conversion). IsParagraphOf c.args.moves.now c.args.input c.args.output (plain_names c.args.names) made.deeds) (sym c.new.ensures)
    (subst (λ d. IsParagraphOf c.args.moves.now c.args.input c.args.output (plain_names c.args.names) (deeds_of (record { input = c.in_ok-in_layout.in_layout; output = c.in_ok-out_layout.out_layout }) d)) (sym c.into_deeds.ensures)
    (paragraph_too c.args.moves.now _ _ _ _ (plain_names c.args.names) _ (sym c.in_ok-in_layout.ensures) (sym c.in_ok-out_layout.ensures.layout) c.in_ok-paragraph.ensures.found))
