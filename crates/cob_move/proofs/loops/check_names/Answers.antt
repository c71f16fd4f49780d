use Rattle.std.proofs.Common.{◌≡◌, ℕ, refl, subst, sym}
use Rattle.cob_move_loops.specs.Passages.{WrittenLoop}
use Rattle.cob_move_loops.specs.Reading.{written_loop, written_loops}
use Rattle.cob_move_names.specs.Directory.{entries_named}
use Rattle.cob_move.specs.Bodies.{BreaksCounters, IsNoEntry}
use Rattle.cob_move.proofs.LoopLemmas.{loops_end, loops_later, not_true}
use Rattle.cob_move.proofs.SomeLemmas.{some_here, some_later}
use Rattle.cob_move.proofs.loops.check_names.Goals as goal

pub loop-head-init : goal.loop-head-init
loop-head-init c = record { none = λ h. h; broken = λ line h. h }

pub loop-head-preserved : goal.loop-head-preserved
loop-head-preserved c = record {
  none = λ rest. c.loop-head.invariant.none
      (loops_later written_loop (λ (h : WrittenLoop). IsNoEntry (entries_named c.args.names.now) h.counter) c.args.heads.now c.loop-head.head-index c.head-item.result
      c.loop-head-test.true c.head-item.is (c.is_no_entry.ensures.0 c.if-not-is_no_entry.false) rest);
  broken = λ line rest. c.loop-head.invariant.broken line
      (some_later written_loop (λ (h : WrittenLoop). (line ≡ h.line) × (IsNoEntry (entries_named c.args.names.now) h.counter → ⊥)) c.args.heads.now c.loop-head.head-index c.head-item.result
      c.loop-head-test.true c.head-item.is rest);
}

pub returns-clause-found : goal.returns-clause-found
returns-clause-found c = c.loop-head.invariant.none
    (loops_end written_loop (λ (h : WrittenLoop). IsNoEntry (entries_named c.args.names.now) h.counter) c.args.heads.now c.loop-head.head-index c.loop-head-test.false)

pub returns-then-not-is_no_entry-clause-fault : goal.returns-then-not-is_no_entry-clause-fault
returns-then-not-is_no_entry-clause-fault c =
    let line = c.head-item.result.line in (
      c.fault_of.ensures.0,
      subst (λ (n : ℕ). BreaksCounters (entries_named c.args.names.now) n (written_loops c.args.heads.now)) (sym c.fault_of.ensures.1)
          (c.loop-head.invariant.broken line
          (some_here written_loop (λ (h : WrittenLoop). (line ≡ h.line) × (IsNoEntry (entries_named c.args.names.now) h.counter → ⊥)) c.args.heads.now c.loop-head.head-index c.head-item.result
          c.loop-head-test.true c.head-item.is (refl, λ none. not_true c.is_no_entry.result c.if-not-is_no_entry.true (c.is_no_entry.ensures.1 none)))),
    )
