use Rattle.std.proofs.Common.{◌≡◌, drop}
use Rattle.cob_copybook_tree.specs.Nodes.{forest}
use Rattle.cob_move_tests.specs.Qualities.{has_sign}
use Rattle.cob_move_tests.proofs.qualities.+has_sign.Given as goal

abbrev pub decreases-has_sign : goal.decreases-has_sign
decreases-has_sign l = goal.size-has_sign l

abbrev pub invariant-loop-entry : goal.invariant-loop-entry
invariant-loop-entry l = has_sign (forest (drop l.entry-index l.entries)) ≡ has_sign (forest l.entries)
