use Rattle.std.proofs.Common.{subst}
use Rattle.cob_layout.proofs.RangeLemmas.{HoldsRange, all_with, all_without}
use Rattle.cob_layout.proofs.keeping.range_of.Goals.{in-Some, in_default}
use Rattle.cob_layout.proofs.keeping.range_of.Goals as goal

pub loop-one-preserved : goal.loop-one-preserved
loop-one-preserved c = elim c.match-one.branch [
  | in-Some w ↦ record {
    within = λ r wide rest. all_with r c.loop-one.range w.range_with-range.result w.in-Some.stored c.args.kept.now c.loop-one.one-index c.loop-one-test.true w.in-Some.is w.range_with-range.ensures.from w.range_with-range.ensures.end c.loop-one.invariant.within (subst (HoldsRange r) w.range-is wide) rest;
  }
  | in_default w ↦ record {
    within = λ r wide rest. all_without r c.loop-one.range c.args.kept.now c.loop-one.one-index c.loop-one-test.true w.in_default.is c.loop-one.invariant.within (subst (HoldsRange r) w.range-is wide) rest;
  }
]
