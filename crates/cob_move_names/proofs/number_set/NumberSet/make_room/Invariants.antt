use Rattle.std.proofs.Common.{◌≡◌, ◌+◌, ◌-◌, ℕ, length}
use Rattle.cob_move_names.specs.Numbers.{has}
use Rattle.cob_move_names.proofs.number_set.NumberSet.make_room.Given as goal

abbrev pub decreases-loop-self : goal.decreases-loop-self
decreases-loop-self l = l.number + 1 - length l.self.flags.items

abbrev pub invariant-loop-self : goal.invariant-loop-self
invariant-loop-self l = (n : ℕ) → has l.self n ≡ has l.fn.self n
