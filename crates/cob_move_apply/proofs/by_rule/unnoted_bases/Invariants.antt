use Rattle.std.proofs.Common.{◌+◌, ◌-◌, length}
use Rattle.cob_move_apply.specs.ByRule.{NothingIsNoted}
use Rattle.cob_move_apply.proofs.by_rule.unnoted_bases.Given as goal

abbrev pub invariant-loop-bases : goal.invariant-loop-bases
invariant-loop-bases l = NothingIsNoted l.bases.items

abbrev pub decreases-loop-bases : goal.decreases-loop-bases
decreases-loop-bases l = l.most + 1 - length l.bases.items
