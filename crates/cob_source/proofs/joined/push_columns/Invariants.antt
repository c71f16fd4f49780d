use Rattle.std.proofs.Common.{◌≡◌, ◌+◌, ◌-◌, ◌++◌, take, drop}
use Rattle.cob_source.specs.Lines.{cells_from, filled}
use Rattle.cob_source.proofs.joined.push_columns.Given as goal

abbrev pub invariant-loop-i : goal.invariant-loop-i
invariant-loop-i l = l.cells.items ≡ l.initial.cells.items ++ cells_from l.line (8 + l.skipped) (take (l.i - l.skipped) (drop l.skipped (filled l.area)))
