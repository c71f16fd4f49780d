use Rattle.std.proofs.Common.{refl}
use Rattle.std.proofs.lemmas.Result.{err_from_is_err_and}
use Rattle.cob_move_names.specs.Valued.{plain_names}
use Rattle.cob_move.proofs.paragraph.Paragraph.read.Goals as goal

pub returns-in_err-deeds-clause-only : goal.returns-in_err-deeds-clause-only
returns-in_err-deeds-clause-only c = λ d is.
    let p = err_from_is_err_and c.from_residual.result c.from_residual.ensures.1 in
    rw (p.1, p.2) (tt, c.paragraph_breaks_no_rule.ensures c.args.text.now c.args.input.now c.args.output.now (plain_names c.args.names) d c.in_err-deeds.field-0.0 is c.in_err-deeds.ensures.fault)

pub returns-clause-only : goal.returns-clause-only
returns-clause-only c = λ d is. (c.one_paragraph.ensures c.args.text.now c.args.input.now c.args.output.now (plain_names c.args.names) _ d c.in_ok-deeds.ensures.found is, tt)
