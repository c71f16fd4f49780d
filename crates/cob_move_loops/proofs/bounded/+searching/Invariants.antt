use Rattle.std.proofs.Common.{◌≤◌, ◌+◌, ◌*◌, length}
use Rattle.cob_source.specs.Tokens.{lexemes}
use Rattle.cob_move_loops.specs.Reading.{item_front}
use Rattle.cob_move_loops.proofs.BoundedLemmas.{LeftToSearch}
use Rattle.cob_move_loops.proofs.FrontLemmas.{front_size}
use Rattle.cob_move_loops.proofs.bounded.+searching.Given as goal

abbrev pub decreases-has_subscript : goal.decreases-has_subscript
decreases-has_subscript l = 3 * length (lexemes l.words.now)

abbrev pub decreases-is_in_item : goal.decreases-is_in_item
decreases-is_in_item l = 3 * front_size (item_front l.item.now) + 2

abbrev pub decreases-is_in_loop : goal.decreases-is_in_loop
decreases-is_in_loop l = 3 * length (lexemes l.body.now) + 1

abbrev pub decreases-is_in_choice : goal.decreases-is_in_choice
decreases-is_in_choice l = 3 * length (lexemes l.branches.now) + 1

abbrev pub decreases-is_in_branch : goal.decreases-is_in_branch
decreases-is_in_branch l = 3 * length (lexemes l.body.now) + 1

abbrev pub invariant-has_subscript-loop-item : goal.invariant-has_subscript-loop-item
invariant-has_subscript-loop-item l = record {
  left : LeftToSearch l.place l.name (lexemes l.words) (lexemes l.rest);
  fewer : length (lexemes l.rest) ≤ length (lexemes l.words);
}

abbrev pub decreases-has_subscript-loop-item : goal.decreases-has_subscript-loop-item
decreases-has_subscript-loop-item l = length (lexemes l.rest)
