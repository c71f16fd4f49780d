use Rattle.std.proofs.Common.{◌≡◌, ◌++◌, ◌≤◌, length}
use Rattle.cob_source.specs.Tabs.{untabbed, untabbed_from}
use Rattle.cob_source.proofs.tabs.without_tabs.Given as goal

abbrev pub invariant-loop-first : goal.invariant-loop-first
invariant-loop-first l = record {
  within : l.column ≤ 327;
  put : l.out.items ++ untabbed_from l.width l.column l.rest ≡ untabbed l.width l.text;
}

abbrev pub decreases-loop-first : goal.decreases-loop-first
decreases-loop-first l = length l.rest
