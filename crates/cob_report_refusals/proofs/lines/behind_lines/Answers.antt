use Rattle.std.proofs.Common.{ℕ, subst, arith}
use Rattle.std.proofs.lemmas.Grind.{common_steps}
use Rattle.cob_report_refusals.specs.Behind.{StandsBehind}
use Rattle.cob_report_refusals.proofs.Placing.{one_more, starts_there}
use Rattle.cob_report_refusals.proofs.lines.behind_lines.Goals as goal

pub loop-done-init : goal.loop-done-init
loop-done-init c = starts_there c.args.text.now

pub loop-done-preserved : goal.loop-done-preserved
loop-done-preserved c =
    one_more c.loop-done.done c.args.text.now c.loop-done.rest.now c.behind_line-rest.result.now c.behind_line-rest.ensures.line.0 (grind (arith, common_steps)) c.loop-done.invariant c.behind_line-rest.ensures.line.1

pub returns : goal.returns
returns c = subst (λ (n : ℕ). StandsBehind n c.args.text.now c.loop-done.rest.now) (omega (arith, c.loop-done-test.false)) c.loop-done.invariant
