use Rattle.std.proofs.Common.{◌≤◌, ◌+◌, ◌*◌, length}
use Rattle.cob_source.specs.Tokens.{lexemes}
use Rattle.cob_move_loops.specs.Reading.{item_front}
use Rattle.cob_move_loops.proofs.FrontLemmas.{front_size}
use Rattle.cob_move_loops.proofs.PassageLemmas.{Checked}
use Rattle.cob_move_loops.proofs.checking.+checking.Given as goal

abbrev pub decreases-check_at : goal.decreases-check_at
decreases-check_at l = 2 * length (lexemes l.words.now)

abbrev pub decreases-check_item : goal.decreases-check_item
decreases-check_item l = 2 * front_size (item_front l.item.now) + 1

abbrev pub invariant-check_at-loop-rest : goal.invariant-check_at-loop-rest
invariant-check_at-loop-rest l = record {
  checked : Checked l.place (lexemes l.words) (lexemes l.rest);
  fewer : length (lexemes l.rest) ≤ length (lexemes l.words);
}

abbrev pub decreases-check_at-loop-rest : goal.decreases-check_at-loop-rest
decreases-check_at-loop-rest l = length (lexemes l.rest)
