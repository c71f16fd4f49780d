use Rattle.std.proofs.Common.{ℕ, ◌≤◌, ◌+◌, ◌*◌, length}
use Rattle.cob_source.specs.Tokens.{lexemes}
use Rattle.cob_move_loops.specs.Reading.{counters, item_front}
use Rattle.cob_move_loops.proofs.FrontLemmas.{front_size}
use Rattle.cob_move.specs.Between.{ArePairsOf}
use Rattle.cob_move_tests.specs.Entries.{records_of}
use Rattle.cob_move.proofs.LookLemmas.{LeftOfLook}
use Rattle.cob_move.proofs.looking.+looking.Given as goal

abbrev pub decreases-look_at_passage : goal.decreases-look_at_passage
decreases-look_at_passage l = 4 * length (lexemes l.words.now)

abbrev pub decreases-look_at_item : goal.decreases-look_at_item
decreases-look_at_item l = 4 * front_size (item_front l.item.now) + 3

abbrev pub decreases-look_at_loop : goal.decreases-look_at_loop
decreases-look_at_loop l = 4 * length (lexemes l.body.now) + 2

abbrev pub decreases-look_at_first : goal.decreases-look_at_first
decreases-look_at_first l = 4 * length (lexemes l.body.now) + 1

abbrev pub invariant-look_at_passage-loop-item : goal.invariant-look_at_passage-loop-item
invariant-look_at_passage-loop-item l = record {
  left : LeftOfLook l.entries (counters l.turn) (lexemes l.words) (lexemes l.rest);
  fewer : length (lexemes l.rest) ≤ length (lexemes l.words);
  pairs : ArePairsOf (records_of l.entries) l.pairs;
}

abbrev pub decreases-look_at_passage-loop-item : goal.decreases-look_at_passage-loop-item
decreases-look_at_passage-loop-item l = length (lexemes l.rest)
