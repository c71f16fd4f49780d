use Rattle.std.proofs.Common.{◌≤◌, ◌+◌, ◌*◌, length}
use Rattle.cob_source.specs.Tokens.{lexemes}
use Rattle.cob_move_loops.specs.Reading.{item_front}
use Rattle.cob_move_loops.proofs.BoundedLemmas.{LeftOfBounds}
use Rattle.cob_move_loops.proofs.FrontLemmas.{front_size}
use Rattle.cob_move_loops.proofs.bounded.+bounding.Given as goal

abbrev pub decreases-check_all : goal.decreases-check_all
decreases-check_all l = 2 * length (lexemes l.words.now)

abbrev pub decreases-check_item : goal.decreases-check_item
decreases-check_item l = 2 * front_size (item_front l.item.now) + 1

abbrev pub invariant-check_all-loop-item : goal.invariant-check_all-loop-item
invariant-check_all-loop-item l = record {
  left : LeftOfBounds l.place (lexemes l.words) (lexemes l.rest);
  fewer : length (lexemes l.rest) ≤ length (lexemes l.words);
}

abbrev pub decreases-check_all-loop-item : goal.decreases-check_all-loop-item
decreases-check_all-loop-item l = length (lexemes l.rest)
