use Rattle.cob_report_html.proofs.TopLemmas.{tops_more}
use Rattle.cob_report_html.proofs.tops.tops_of.Goals as goal

pub loop-next-preserved : goal.loop-next-preserved
loop-next-preserved c = tops_more c.args.first c.loop-next.end c.saturating_add-start.result c.top_behind-top.result c.saturating_add-end.result c.args.boxes.now
    c.loop-next.tops.items c.push.new.self.items c.loop-next.next-index (record { gap = 0; height = 0 }) c.loop-next-test.true c.saturating_add-start.ensures
    c.top_behind-top.ensures c.saturating_add-end.ensures c.in_ok-push.ensures.items c.loop-next.invariant
