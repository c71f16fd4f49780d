use Rattle.std.proofs.Common.{ℕ, drop}
use Rattle.std.specs.List.{AllByRecursion}
use Rattle.cob_move_loops.specs.Reading.{written_loops}
use Rattle.cob_move_names.specs.Directory.{entries_named}
use Rattle.cob_move.specs.Bodies.{BreaksCounters, IsNoEntry}
use Rattle.cob_move.proofs.loops.check_names.Given as goal

abbrev pub invariant-loop-head : goal.invariant-loop-head
invariant-loop-head l = record {
  none : AllByRecursion (λ h. IsNoEntry (entries_named l.names) h.counter) (written_loops (drop l.head-index l.heads))
      → AllByRecursion (λ h. IsNoEntry (entries_named l.names) h.counter) (written_loops l.heads);
  broken : (line : ℕ) → BreaksCounters (entries_named l.names) line (written_loops (drop l.head-index l.heads))
      → BreaksCounters (entries_named l.names) line (written_loops l.heads);
}
