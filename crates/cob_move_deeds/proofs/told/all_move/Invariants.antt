use Rattle.std.proofs.Common.{length}
use Rattle.std.specs.List.{AllByRecursion}
use Rattle.cob_move_deeds.specs.Told.{MovesAlone}
use Rattle.cob_move_deeds.proofs.told.all_move.Given as goal

abbrev pub invariant-loop-flow : goal.invariant-loop-flow
invariant-loop-flow l = record {
  there : AllByRecursion MovesAlone l.rest → AllByRecursion MovesAlone l.flows;
  back : AllByRecursion MovesAlone l.flows → AllByRecursion MovesAlone l.rest;
}

abbrev pub decreases-loop-flow : goal.decreases-loop-flow
decreases-loop-flow l = length l.rest
