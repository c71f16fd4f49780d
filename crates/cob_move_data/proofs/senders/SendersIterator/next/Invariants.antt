use Rattle.std.proofs.Common.{◌≡◌, length}
use Rattle.cob_move_data.specs.Singles.{senders_behind}
use Rattle.cob_move_data.proofs.senders.SendersIterator.next.Given as goal

abbrev pub invariant-loop-moves : goal.invariant-loop-moves
invariant-loop-moves l = l.fn.self ≡ senders_behind l.self-inside.taken l.self-inside.statements.now

abbrev pub decreases-loop-moves : goal.decreases-loop-moves
decreases-loop-moves l = length l.self-inside.statements.now
