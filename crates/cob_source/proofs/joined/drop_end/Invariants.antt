use Rattle.std.proofs.Common.{◌≡◌, ◌≤◌, take, length}
use Rattle.cob_source.specs.Lines.{trim_end}
use Rattle.cob_source.proofs.joined.drop_end.Given as goal

abbrev pub invariant-loop-end : goal.invariant-loop-end
invariant-loop-end l = record {
  within : l.end ≤ length l.cells.items;
  same : trim_end (take l.end l.cells.items) ≡ trim_end l.cells.items;
}

abbrev pub decreases-loop-end : goal.decreases-loop-end
decreases-loop-end l = l.end
