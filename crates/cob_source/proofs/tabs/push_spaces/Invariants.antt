use Rattle.std.proofs.Common.{◌≡◌, ◌++◌, replicate}
use Rattle.cob_source.proofs.tabs.push_spaces.Given as goal

abbrev pub invariant-loop-i : goal.invariant-loop-i
invariant-loop-i l = l.out.items ≡ l.fn.out.items ++ replicate l.i 32
