use Rattle.cob_report_html.proofs.GroupLemmas.{taken_step}
use Rattle.cob_report_html.proofs.ends.counts_of.Goals as goal

pub loop-single-preserved : goal.loop-single-preserved
loop-single-preserved c =
    taken_step c.args.singles.now c.loop-single.single-index _ c.loop-single.counts.items c.push.new.self.items c.swap_remove.result c.loop-single.left c.swap_remove.new.self
    c.loop-single-test.true c.swap_remove.ensures.value c.swap_remove.ensures.updates c.in_ok-push.ensures.items c.loop-single.invariant
