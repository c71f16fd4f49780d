use Rattle.std.proofs.Common.{ℕ, ◌≤◌, ◌+◌, ◌*◌, length}
use Rattle.cob_source.specs.Tokens.{lexemes}
use Rattle.cob_move_loops.specs.Reading.{item_front}
use Rattle.cob_move.specs.DeedsRead.{words_in_front}
use Rattle.cob_move.proofs.LookLemmas.{LeftOfDeep}
use Rattle.cob_move.proofs.looking.+depth.Given as goal

abbrev pub decreases-depth : goal.decreases-depth
decreases-depth l = 2 * length (lexemes l.words.now)

abbrev pub decreases-depth_of_item : goal.decreases-depth_of_item
decreases-depth_of_item l = 2 * words_in_front (item_front l.item.now) + 1

abbrev pub invariant-depth-loop-item : goal.invariant-depth-loop-item
invariant-depth-loop-item l = record {
  left : LeftOfDeep l.most (lexemes l.words) (lexemes l.rest);
  fewer : length (lexemes l.rest) ≤ length (lexemes l.words);
  small : l.most ≤ length (lexemes l.words);
}

abbrev pub decreases-depth-loop-item : goal.decreases-depth-loop-item
decreases-depth-loop-item l = length (lexemes l.rest)
