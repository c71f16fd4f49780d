use Rattle.std.proofs.Common.{false, refl}
use Rattle.cob_move_loops.specs.Passages.{WrittenLoop}
use Rattle.cob_move_loops.specs.Reading.{written_loop}
use Rattle.cob_move.specs.Paragraphs.{EndsByNumber}
use Rattle.cob_move.proofs.LoopLemmas.{loops_after, loops_end, loops_here, loops_later, not_true}
use Rattle.cob_move.proofs.loops.end_by_numbers.Goals as goal

pub loop-head-init : goal.loop-head-init
loop-head-init c = record { yes = λ h. h; must = λ h. h }

pub loop-head-preserved : goal.loop-head-preserved
loop-head-preserved c = record {
  yes = λ rest. c.loop-head.invariant.yes
      (loops_later written_loop (λ (h : WrittenLoop). EndsByNumber h.bound) c.args.heads.now c.loop-head.head-index c.head-item.result c.loop-head-test.true c.head-item.is
      (c.ends_by_number.ensures.0 c.if-not-ends_by_number.false) rest);
  must = λ all. loops_after written_loop (λ (h : WrittenLoop). EndsByNumber h.bound) c.args.heads.now c.loop-head.head-index c.head-item.result c.loop-head-test.true c.head-item.is (c.loop-head.invariant.must all);
}

pub returns-then-not-ends_by_number : goal.returns-then-not-ends_by_number
returns-then-not-ends_by_number c = (
  λ yes. absurd (not_true false refl yes),
  λ all. absurd (not_true c.ends_by_number.result c.if-not-ends_by_number.true
      (c.ends_by_number.ensures.1 (loops_here written_loop (λ (h : WrittenLoop). EndsByNumber h.bound) c.args.heads.now c.loop-head.head-index c.head-item.result c.loop-head-test.true c.head-item.is (c.loop-head.invariant.must all)))),
)

pub returns : goal.returns
returns c = (
  λ yes. c.loop-head.invariant.yes (loops_end written_loop (λ (h : WrittenLoop). EndsByNumber h.bound) c.args.heads.now c.loop-head.head-index c.loop-head-test.false),
  λ all. refl,
)
