use Rattle.cob_move_data.specs.Singles.{all_singles}
use Rattle.cob_move_apply.specs.Some.{SomeOf}
use Rattle.cob_back_moves.specs.Brought.{moves_between}
use Rattle.cob_back_moves.specs.Tested.{IsSingle}
use Rattle.cob_back_moves.proofs.EachLemmas.{Each}
use Rattle.cob_back_moves.proofs.LeftLemmas.{Both}
use Rattle.cob_back_moves.proofs.SomeLemmas.{One}
use Rattle.cob_back_moves.proofs.some.some_of_these_meets.Given as goal

abbrev pub invariant-loop-single : goal.invariant-loop-single
invariant-loop-single g l = record {
  legal : Each (IsSingle l.layouts) l.layouts l.single-iterator;
  some : Both (One (g.C.Condition.met l.condition) l.layouts l.single-iterator) (SomeOf (g.C.Condition.met l.condition) (all_singles (moves_between l.layouts l.statements)));
}
