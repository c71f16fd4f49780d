use Rattle.cob_layout.proofs.ReachLemmas.{met_from}
use Rattle.cob_layout.proofs.finding.reach_of.Goals as goal

pub loop-index-preserved : goal.loop-index-preserved
loop-index-preserved c = record {
  met = λ behind within rest. (let (before, own) = c.reach_past-reach.ensures behind within in
      c.loop-index.invariant.met behind before (met_from behind c.args.counts.now c.args.tables.now c.args.kept.now c.loop-index.index c.count_at-count.result (record { number = 0; least = 0; most = 0; count = 0 }) c.loop-index-test.true c.requires.as_many c.count_at-count.ensures own rest));
}
