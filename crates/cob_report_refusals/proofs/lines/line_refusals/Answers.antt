use Rattle.std.proofs.Common.{rules, ◌<◌, length, arith}
use Rattle.std.proofs.lemmas.Grind.{common_steps}
use Rattle.cob_report_refusals.proofs.Placing.{further_to}
use Rattle.cob_report_refusals.proofs.lines.line_refusals.Goals as goal

pub loop-done-preserved : goal.loop-done-preserved
loop-done-preserved c =
    let some : 0 < length c.loop-done.rest.now = grind (arith, common_steps) in (
      further_to c.loop-done.number c.max-passed.result c.in-Some.now c.args.text.now c.loop-done.rest.now c.behind_lines-rest-in-loop-done.result.now some (search rules) c.loop-done.invariant.0 c.behind_lines-rest-in-loop-done.ensures,
      c.in_ok-more.ensures c.args.text.now c.loop-done.rest.now (c.loop-done.invariant.0 some) c.in-Err.ensures.refused c.loop-done.invariant.1,
    )
