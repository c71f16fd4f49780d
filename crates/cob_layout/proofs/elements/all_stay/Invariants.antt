use Rattle.std.proofs.Common.{drop}
use Rattle.cob_layout.specs.Elements.{AllStay}
use Rattle.cob_layout.proofs.elements.all_stay.Given as goal

abbrev pub invariant-loop-number : goal.invariant-loop-number
invariant-loop-number l = record {
  so : AllStay l.shifts (drop l.number-index l.numbers) l.table → AllStay l.shifts l.numbers l.table;
}
