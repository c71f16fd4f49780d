use Rattle.std.proofs.Common.{◌≡◌, ◌+◌, ◌≤◌, ◌++◌, length}
use Rattle.cob_source.specs.Lines.{cells_from}
use Rattle.cob_source.proofs.free.cells_of.Given as goal

abbrev pub invariant-loop-first : goal.invariant-loop-first
invariant-loop-first l = record {
  few : l.count + length l.rest ≤ 255;
  cells : l.cells.items ++ cells_from l.line (l.count + 1) l.rest ≡ cells_from l.line 1 l.text;
}

abbrev pub decreases-loop-first : goal.decreases-loop-first
decreases-loop-first l = length l.rest
