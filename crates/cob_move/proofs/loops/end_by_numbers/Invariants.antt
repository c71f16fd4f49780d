use Rattle.std.proofs.Common.{drop}
use Rattle.std.specs.List.{AllByRecursion}
use Rattle.cob_move_loops.specs.Reading.{written_loops}
use Rattle.cob_move.specs.Paragraphs.{EndsByNumber}
use Rattle.cob_move.proofs.loops.end_by_numbers.Given as goal

abbrev pub invariant-loop-head : goal.invariant-loop-head
invariant-loop-head l = record {
  yes : AllByRecursion (λ h. EndsByNumber h.bound) (written_loops (drop l.head-index l.heads)) → AllByRecursion (λ h. EndsByNumber h.bound) (written_loops l.heads);
  must : AllByRecursion (λ h. EndsByNumber h.bound) (written_loops l.heads) → AllByRecursion (λ h. EndsByNumber h.bound) (written_loops (drop l.head-index l.heads));
}
