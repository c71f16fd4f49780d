use Rattle.std.proofs.Common.{◌∙◌, refl}
use Rattle.std.proofs.lemmas.Result.{err_from_is_err_and}
use Rattle.cob_report_explain.specs.Each.{numbered_moves, numbered_of_statement}
use Rattle.cob_report_explain.specs.Seen.{records_of_layouts}
use Rattle.cob_report_explain.proofs.EachLemmas.{moves_all, moves_more, moves_none, moves_stop}
use Rattle.cob_report_explain.proofs.LawLemmas.{cut_statement, no_statement, statement_between}
use Rattle.cob_report_explain.proofs.walking.walk_all.Goals as goal

pub loop-number-init : goal.loop-number-init
loop-number-init g c = record {
  seen = moves_none c.args.layouts.now.reading (records_of_layouts c.args.layouts.now) (numbered_moves 0 c.args.statements.now) c.args.input.now c.args.output.now (g.W.Watcher.seen c.args.watcher.now);
  output = refl;
  room = c.requires.room;
}

pub walk_statement-requires-clause-moves : goal.walk_statement-requires-clause-moves
walk_statement-requires-clause-moves g c =
    statement_between c.args.layouts.now.reading (records_of_layouts c.args.layouts.now) c.args.statements.now c.loop-number.number c.index-statements-number.result c.loop-number-test.true c.index-statements-number.is c.requires.between

pub loop-number-preserved : goal.loop-number-preserved
loop-number-preserved g c = record {
  seen = moves_more c.args.layouts.now.reading (records_of_layouts c.args.layouts.now) _ _ (numbered_of_statement c.loop-number.number c.index-statements-number.result) _ c.args.input.now c.args.output.now c.loop-number.output
      c.walk_statement.new.output _ _ _ (cut_statement c.args.statements.now c.loop-number.number c.index-statements-number.result c.loop-number-test.true c.index-statements-number.is) c.loop-number.invariant.seen
      c.in_ok-walk_statement.ensures.seen;
  output = c.walk_statement.auto.output ∙ c.loop-number.invariant.output;
  room = c.in_ok-walk_statement.ensures.room;
}

pub returns-in_err-walk_statement-clause-seen : goal.returns-in_err-walk_statement-clause-seen
returns-in_err-walk_statement-clause-seen g c =
    let p = err_from_is_err_and c.from_residual.result c.from_residual.ensures.1 in
    rw (p.1, p.2)
    (moves_stop c.args.layouts.now.reading (records_of_layouts c.args.layouts.now) _ _ (numbered_of_statement c.loop-number.number c.index-statements-number.result) _ c.args.input.now c.args.output.now c.loop-number.output
    c.walk_statement.new.output _ _ _ c.in_err-walk_statement.field-0.0 (cut_statement c.args.statements.now c.loop-number.number c.index-statements-number.result c.loop-number-test.true c.index-statements-number.is)
    c.loop-number.invariant.seen c.in_err-walk_statement.ensures.seen)

pub returns-clause-seen : goal.returns-clause-seen
returns-clause-seen g c =
    moves_all c.args.layouts.now.reading (records_of_layouts c.args.layouts.now) _ _ c.args.input.now c.args.output.now c.loop-number.output _ _
    (no_statement c.args.statements.now c.loop-number.number c.loop-number-test.false) c.loop-number.invariant.seen
