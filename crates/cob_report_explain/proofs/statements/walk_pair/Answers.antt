use Rattle.cob_report_explain.specs.Each.{each_ending}
use Rattle.cob_report_explain.specs.Seen.{records_of_layouts}
use Rattle.cob_report_explain.proofs.EachLemmas.{pair_seen}
use Rattle.cob_report_explain.proofs.statements.walk_pair.Goals as goal

pub returns-clause-seen : goal.returns-clause-seen
returns-clause-seen g c =
    pair_seen c.args.layouts.now.reading (records_of_layouts c.args.layouts.now) c.args.statement c.args.index c.args.group.now c.args.pair.now c.entry_below.result c.entry_below-receiver.result
    c.from_ref.result.now c.args.input.now c.args.output.now (g.W.Watcher.seen c.args.watcher.now) (g.W.Watcher.seen c.walk_move.new.watcher) (each_ending c.walk_move.result c.walk_move.new.output) c.entry_below.ensures
    c.entry_below-receiver.ensures c.from_ref.ensures.value c.walk_move.ensures.seen
