use Rattle.std.proofs.Common.{◌≤◌, ◌+◌, ◌*◌, length}
use Rattle.cob_source.specs.Tokens.{lexemes}
use Rattle.cob_move_loops.specs.Few.{looped_of}
use Rattle.cob_limits.specs.Limits.{most_written_out}
use Rattle.cob_move_loops.specs.Reading.{item_front}
use Rattle.cob_move_loops.proofs.CountLemmas.{LeftToCount}
use Rattle.cob_move_loops.proofs.FrontLemmas.{front_size}
use Rattle.cob_move_loops.proofs.counting.+counting_loops.Given as goal

abbrev pub decreases-count_loops : goal.decreases-count_loops
decreases-count_loops l = 2 * length (lexemes l.words.now)

abbrev pub decreases-count_looped : goal.decreases-count_looped
decreases-count_looped l = 2 * front_size (item_front l.item.now) + 1

abbrev pub invariant-count_loops-loop-item : goal.invariant-count_loops-loop-item
invariant-count_loops-loop-item l = record {
  left : LeftToCount l.place looped_of (lexemes l.words) (lexemes l.rest) l.count;
  most : l.count ≤ most_written_out;
  fewer : length (lexemes l.rest) ≤ length (lexemes l.words);
}

abbrev pub decreases-count_loops-loop-item : goal.decreases-count_loops-loop-item
decreases-count_loops-loop-item l = length (lexemes l.rest)
