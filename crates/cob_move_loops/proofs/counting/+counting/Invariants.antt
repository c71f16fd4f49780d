use Rattle.std.proofs.Common.{◌≤◌, ◌+◌, ◌*◌, length}
use Rattle.cob_source.specs.Tokens.{lexemes}
use Rattle.cob_move_loops.specs.Few.{statements_of}
use Rattle.cob_limits.specs.Limits.{most_written_out}
use Rattle.cob_move_loops.specs.Reading.{item_front}
use Rattle.cob_move_loops.proofs.CountLemmas.{LeftToCount}
use Rattle.cob_move_loops.proofs.FrontLemmas.{front_size}
use Rattle.cob_move_loops.proofs.counting.+counting.Given as goal

abbrev pub decreases-count_all : goal.decreases-count_all
decreases-count_all l = 3 * length (lexemes l.words.now)

abbrev pub decreases-count_item : goal.decreases-count_item
decreases-count_item l = 3 * front_size (item_front l.item.now) + 2

abbrev pub decreases-count_turns : goal.decreases-count_turns
decreases-count_turns l = 3 * length (lexemes l.body.now) + 1

abbrev pub decreases-count_choice : goal.decreases-count_choice
decreases-count_choice l = 3 * length (lexemes l.branches.now) + 1

abbrev pub invariant-count_all-loop-item : goal.invariant-count_all-loop-item
invariant-count_all-loop-item l = record {
  left : LeftToCount l.place statements_of (lexemes l.words) (lexemes l.rest) l.count;
  most : l.count ≤ most_written_out;
  fewer : length (lexemes l.rest) ≤ length (lexemes l.words);
}

abbrev pub decreases-count_all-loop-item : goal.decreases-count_all-loop-item
decreases-count_all-loop-item l = length (lexemes l.rest)
