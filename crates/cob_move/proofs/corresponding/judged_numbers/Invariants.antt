use Rattle.std.proofs.Common.{◌≡◌, ◌++◌, drop, map}
use Rattle.std.specs.List.{AllByRecursion}
use Rattle.cob_move.specs.Between.{MayMoveBetween, numbers_of}
use Rattle.cob_move_apply.specs.Some.{SomeOf}
use Rattle.cob_move.specs.Refusals.{BreaksBetween}
use Rattle.cob_move_names.specs.Between.{ends}
use Rattle.cob_move_statements.specs.declared.fault.MoveRule.{MoveRule}
use Rattle.cob_move.proofs.corresponding.judged_numbers.Given as goal

abbrev pub invariant-loop-one : goal.invariant-loop-one
invariant-loop-one l = record {
  so_far : map numbers_of (map ends l.list) ≡ l.numbers.items ++ map numbers_of (map ends (drop l.one-index l.list));
  allowed : AllByRecursion MayMoveBetween (map ends (drop l.one-index l.list)) → AllByRecursion MayMoveBetween (map ends l.list);
  broken : (r : MoveRule) → SomeOf (BreaksBetween r) (map ends (drop l.one-index l.list)) → SomeOf (BreaksBetween r) (map ends l.list);
}
