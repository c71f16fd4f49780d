use Rattle.std.proofs.lemmas.Result.{err_from_is_err_and}
use Rattle.cob_move_data.specs.Moves.{moves}
use Rattle.cob_move_names.specs.Candidates.{all_entries}
use Rattle.cob_move_statements.specs.Written.{written_statements}
use Rattle.cob_move.proofs.meaning.all_meant.Goals as goal

pub returns-in_err-list-clause-only : goal.returns-in_err-list-clause-only
returns-in_err-list-clause-only c = λ ms h.
    let p = err_from_is_err_and c.from_residual.result c.from_residual.ensures.1 in
    rw (p.1, p.2)
    (tt, c.meant_break_no_rule.ensures (all_entries c.args.input.now c.args.output.now) c.args.input.now c.args.output.now (written_statements c.args.statements.now) ms c.in_err-list.field-0.0 h c.in_err-list.ensures.fault)

pub returns-clause-only : goal.returns-clause-only
returns-clause-only c = λ ms h.
    (c.one_meant.ensures (all_entries c.args.input.now c.args.output.now) c.args.input.now c.args.output.now (written_statements c.args.statements.now) (moves (record { input = c.args.input.now; output = c.args.output.now }) c.in_ok-list.list.items) ms c.in_ok-list.ensures.found h, tt)
