use Rattle.std.proofs.Common.{ℕ, ◌≤◌, ◌+◌, ◌*◌, length}
use Rattle.cob_source.specs.Tokens.{lexemes}
use Rattle.cob_move_loops.specs.Reading.{item_front}
use Rattle.cob_move.specs.DeedsRead.{words_in_front}
use Rattle.cob_move.proofs.ChoosingLemmas.{LeftOfChoices}
use Rattle.cob_move.proofs.choosing.+choosing.Given as goal

abbrev pub decreases-has_choice : goal.decreases-has_choice
decreases-has_choice l = 2 * length (lexemes l.words.now)

abbrev pub decreases-chooses : goal.decreases-chooses
decreases-chooses l = 2 * words_in_front (item_front l.item.now) + 1

abbrev pub invariant-has_choice-loop-item : goal.invariant-has_choice-loop-item
invariant-has_choice-loop-item l = record {
  left : LeftOfChoices (lexemes l.words) (lexemes l.rest);
  fewer : length (lexemes l.rest) ≤ length (lexemes l.words);
}

abbrev pub decreases-has_choice-loop-item : goal.decreases-has_choice-loop-item
decreases-has_choice-loop-item l = length (lexemes l.rest)
