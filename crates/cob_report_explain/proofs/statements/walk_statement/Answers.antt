use Rattle.cob_report_explain.specs.Seen.{records_of_layouts}
use Rattle.cob_report_explain.proofs.EachLemmas.{single_statement}
use Rattle.cob_report_explain.proofs.statements.walk_statement.Goals as goal

pub returns-in-Single-clause-seen : goal.returns-in-Single-clause-seen
returns-in-Single-clause-seen g c =
    single_statement c.args.layouts.now.reading (records_of_layouts c.args.layouts.now) c.args.statement c.args.given.now c.in-Single.single c.as_slice.result.now c.args.input.now c.args.output.now c.walk_move.new.output
    (g.W.Watcher.seen c.args.watcher.now) (g.W.Watcher.seen c.walk_move.new.watcher) c.walk_move.result c.in-Single.is c.as_slice.ensures.value c.walk_move.ensures.seen
