use Rattle.std.proofs.Common.{◌≡◌, ◌+◌, drop}
use Rattle.cob_source.specs.Lines.{spaces}
use Rattle.cob_source.proofs.lines.leading_spaces.Given as goal

abbrev pub invariant-loop-i : goal.invariant-loop-i
invariant-loop-i l = spaces l.bytes ≡ l.i + spaces (drop l.i l.bytes)
