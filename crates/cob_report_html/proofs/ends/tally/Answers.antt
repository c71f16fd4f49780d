use Rattle.std.proofs.Common.{arith, ◌≤◌, ◌∙◌}
use Rattle.std.proofs.lemmas.Grind.{common_steps}
use Rattle.cob_report_html.proofs.GroupLemmas.{tally_small, tally_step}
use Rattle.cob_report_html.proofs.ends.tally.Goals as goal

pub loop-single-preserved : goal.loop-single-preserved
loop-single-preserved c =
    tally_step c.args.singles.now c.loop-single.single-index _ c.unwrap_or-earlier.result c.copied.result c.loop-single.counts c.insert.new.self c.loop-single-test.true
    (c.copied.ensures ∙ c.get.ensures.value) c.unwrap_or-earlier.ensures c.in_ok-insert.ensures.updates c.loop-single.invariant

pub overflow_add-earlier : goal.overflow_add-earlier
overflow_add-earlier c =
    let low : c.unwrap_or-earlier.result ≤ c.loop-single.single-index =
    tally_small c.args.singles.now c.loop-single.single-index _ c.unwrap_or-earlier.result c.copied.result c.loop-single.counts c.loop-single-test.true
    (c.copied.ensures ∙ c.get.ensures.value) c.unwrap_or-earlier.ensures c.loop-single.invariant in
    grind (arith, common_steps, low, c.loop-single-test.true)
