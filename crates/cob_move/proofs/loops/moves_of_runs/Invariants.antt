use Rattle.std.proofs.Common.{drop, take}
use Rattle.cob_move.specs.Between.{ArePairsOf}
use Rattle.cob_move_tests.specs.Entries.{records_of}
use Rattle.cob_move.specs.Loops.{RunRefused, SayRuns}
use Rattle.cob_move_apply.specs.Some.{SomeOf}
use Rattle.cob_move_loops.specs.Reading.{all_runs}
use Rattle.cob_move_statements.specs.declared.fault.MoveFault.{MoveFault}
use Rattle.cob_move.proofs.loops.moves_of_runs.Given as goal

abbrev pub invariant-loop-run : goal.invariant-loop-run
invariant-loop-run l = record {
  says : SayRuns l.entries (all_runs (take l.run-index l.runs)) l.list.items;
  refused : (f : MoveFault) → SomeOf (RunRefused f l.entries) (all_runs (drop l.run-index l.runs)) → SomeOf (RunRefused f l.entries) (all_runs l.runs);
  pairs : ArePairsOf (records_of l.entries) l.pairs;
}
