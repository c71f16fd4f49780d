use Rattle.std.proofs.Common.{◌≡◌, [], ◌∷◌, drop, length, map, take}
use Rattle.cob_move_apply.specs.Marked.{RiseUpTo, ArePartedBy, last_mark, statement_of}
use Rattle.cob_move_apply.specs.Steps.{support_of}
use Rattle.cob_move_apply.proofs.marking.marked_plan.Given as goal

abbrev pub invariant-loop-end : goal.invariant-loop-end
invariant-loop-end l = record {
  none : l.plan.steps.items ≡ [];
  parted : ArePartedBy (record { input = l.input; output = l.output }) l.given (support_of l.plan) l.steps.items l.marks.items;
  begin : (last_mark l.marks.items).statement ≡ l.begin;
  ends : RiseUpTo l.begin (length l.given) (drop l.end-index l.ends);
  said : map statement_of l.marks.items ≡ 0 ∷ take l.end-index l.ends;
}
