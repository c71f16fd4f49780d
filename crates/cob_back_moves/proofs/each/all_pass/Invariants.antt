use Rattle.cob_back_moves.specs.Brought.{moves_between}
use Rattle.cob_back_moves.specs.Tested.{IsSingle, PassAll, PassesTest}
use Rattle.cob_back_moves.proofs.EachLemmas.{Each}
use Rattle.cob_back_moves.proofs.LeftLemmas.{Both}
use Rattle.cob_back_moves.proofs.each.all_pass.Given as goal

abbrev pub invariant-loop-single : goal.invariant-loop-single
invariant-loop-single l = record {
  legal : Each (IsSingle l.layouts) l.layouts l.single-iterator;
  left : Both (Each (PassesTest l.test) l.layouts l.single-iterator) (PassAll l.test (moves_between l.layouts l.statements));
}
