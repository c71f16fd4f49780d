use Rattle.std.proofs.Common.{◌≤◌, ◌+◌, ◌*◌, length}
use Rattle.cob_source.specs.Tokens.{lexemes}
use Rattle.cob_move_loops.specs.Reading.{counters, item_front, written_loop}
use Rattle.cob_move_loops.proofs.FrontLemmas.{front_size}
use Rattle.cob_move_loops.proofs.WritingLemmas.{LeftOfTurns, LeftOfWords}
use Rattle.cob_move_loops.proofs.writing.+writing_out.Given as goal

abbrev pub decreases-write_all : goal.decreases-write_all
decreases-write_all l = 3 * length (lexemes l.words.now)

abbrev pub decreases-write_item : goal.decreases-write_item
decreases-write_item l = 3 * front_size (item_front l.item.now) + 2

abbrev pub decreases-write_turns : goal.decreases-write_turns
decreases-write_turns l = 3 * length (lexemes l.body.now) + 1

abbrev pub invariant-write_all-loop-item : goal.invariant-write_all-loop-item
invariant-write_all-loop-item l = record {
  left : LeftOfWords l.place (counters l.turn) (lexemes l.words) (lexemes l.rest) l.fn.out.items l.out.items;
  fewer : length (lexemes l.rest) ≤ length (lexemes l.words);
}

abbrev pub decreases-write_all-loop-item : goal.decreases-write_all-loop-item
decreases-write_all-loop-item l = length (lexemes l.rest)

abbrev pub invariant-write_turns-loop-left : goal.invariant-write_turns-loop-left
invariant-write_turns-loop-left l = record {
  left : LeftOfTurns (counters l.turn) (lexemes l.body) (written_loop l.head) l.left l.number l.fn.out.items l.out.items;
}

abbrev pub decreases-write_turns-loop-left : goal.decreases-write_turns-loop-left
decreases-write_turns-loop-left l = l.left
