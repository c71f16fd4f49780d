use Rattle.std.proofs.Common.{◌≡◌, ◌+◌, ◌<◌, ◌^◌, length}
use Rattle.cob_move_data.specs.Singles.{singles_behind}
use Rattle.cob_move_data.proofs.singles.SinglesIterator.next.Given as goal

abbrev pub invariant-loop-moves : goal.invariant-loop-moves
invariant-loop-moves l = (l.fn.self ≡ singles_behind l.self-inside.statement l.self-inside.taken l.self-inside.statements.now)
    × (l.self-inside.statement + length l.self-inside.statements.now < 2 ^ 64)

abbrev pub decreases-loop-moves : goal.decreases-loop-moves
decreases-loop-moves l = length l.self-inside.statements.now
