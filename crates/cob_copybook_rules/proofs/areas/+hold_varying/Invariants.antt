use Rattle.std.proofs.Common.{◌≡◌, drop}
use Rattle.cob_copybook_tree.specs.Nodes.{forest}
use Rattle.cob_copybook_rules.specs.Areas.{hold_varying}
use Rattle.cob_copybook_rules.proofs.areas.+hold_varying.Given as goal

abbrev pub decreases-hold_varying : goal.decreases-hold_varying
decreases-hold_varying l = goal.size-hold_varying l

abbrev pub invariant-loop-entry : goal.invariant-loop-entry
invariant-loop-entry l = hold_varying (forest (drop l.entry-index l.entries)) ≡ hold_varying (forest l.entries)
