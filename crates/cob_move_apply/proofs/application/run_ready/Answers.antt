use Rattle.std.proofs.Common.{◌∙◌, arith}
use Rattle.cob_move_apply.proofs.application.run_ready.Goals as goal

pub loop-output-preserved : goal.loop-output-preserved
loop-output-preserved c = record {
  left = λ given ms before all. c.run_placed-rest-in-loop-output.ensures.left given ms before (c.run_all_located-left.ensures.left given ms before (c.loop-output.invariant.left given ms before all));
  output = c.run_placed-rest-in-loop-output.auto.output ∙ (c.run_all_located-left.auto.output ∙ c.loop-output.invariant.output);
  space = c.run_placed-rest-in-loop-output.ensures.space;
  spends = λ given ms before first all. c.run_placed-rest-in-loop-output.ensures.spends given ms before first (c.run_all_located-left.ensures.spends given ms before first (c.loop-output.invariant.spends given ms before first all));
  fewer = omega (arith, c.run_placed-rest-in-loop-output.ensures.fewer, c.run_all_located-left.ensures.fewer, c.loop-output.invariant.fewer);
}
