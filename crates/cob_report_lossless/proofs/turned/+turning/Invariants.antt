use Rattle.std.proofs.Common.{◌≤◌, ◌+◌, ◌*◌, ◌∷◌, ◌++◌, [], length}
use Rattle.cob_source.specs.Tokens.{lexemes}
use Rattle.cob_move_loops.specs.declared.parts.Place.TheVariants as standing
use Rattle.cob_move_loops.specs.Passages.{IsPassage, Passage}
use Rattle.cob_move_loops.specs.Reading.{counters, item_front, written_loop}
use Rattle.cob_move_loops.specs.Turns.{counter_at}
use Rattle.cob_move_loops.proofs.FrontLemmas.{front_size}
use Rattle.cob_report_lossless.specs.Turned.{TellPassage, told_lines}
use Rattle.cob_report_lossless.proofs.TurnedLemmas.{LeftToTell, TestsToTell, TurnsToTell}
use Rattle.cob_report_lossless.proofs.turned.+turning.Given as goal

abbrev pub decreases-read_passage : goal.decreases-read_passage
decreases-read_passage l = 4 * length (lexemes l.words.now)

abbrev pub decreases-read_item : goal.decreases-read_item
decreases-read_item l = 4 * front_size (item_front l.item.now) + 3

abbrev pub decreases-read_branch : goal.decreases-read_branch
decreases-read_branch l = 4 * length (lexemes l.body.now) + 1

abbrev pub decreases-read_tested : goal.decreases-read_tested
decreases-read_tested l = 4 * length (lexemes l.body.now) + 2

abbrev pub decreases-read_turns : goal.decreases-read_turns
decreases-read_turns l = 4 * length (lexemes l.body.now) + 2

abbrev pub decreases-read_turn : goal.decreases-read_turn
decreases-read_turn l = 4 * length (lexemes l.body.now) + 1

abbrev pub invariant-read_passage-loop-item : goal.invariant-read_passage-loop-item
invariant-read_passage-loop-item l = record {
  fewer : length (lexemes l.left) ≤ length (lexemes l.words);
  flows : length l.rest ≤ length l.flows;
  told : LeftToTell (counters l.turn) l.place (lexemes l.words) (lexemes l.left) l.flows l.rest (told_lines l.fn.lines) (told_lines l.lines);
}

abbrev pub decreases-read_passage-loop-item : goal.decreases-read_passage-loop-item
decreases-read_passage-loop-item l = length (lexemes l.left)

abbrev pub invariant-read_turns-loop-left : goal.invariant-read_turns-loop-left
invariant-read_turns-loop-left l = record {
  flows : length l.rest ≤ length l.flows;
  told : (p : Passage) → IsPassage p (lexemes l.body) → TurnsToTell (λ i. TellPassage (counters l.turn ++ counter_at (written_loop l.head) i ∷ []) standing.Statements p) l.head.by l.turns l.head.from l.left l.number
      l.flows l.rest (told_lines l.fn.lines) (told_lines l.lines);
}

abbrev pub decreases-read_turns-loop-left : goal.decreases-read_turns-loop-left
decreases-read_turns-loop-left l = l.left

abbrev pub invariant-read_tested-loop-test : goal.invariant-read_tested-loop-test
invariant-read_tested-loop-test l = record {
  flows : length l.rest ≤ length l.flows;
  told : (p : Passage) → IsPassage p (lexemes l.body) → TestsToTell (λ i. TellPassage (counters l.turn ++ counter_at (written_loop l.head) i ∷ []) standing.Statements p) (written_loop l.head) l.number
      l.flows l.rest (told_lines l.fn.lines) (told_lines l.lines);
}

abbrev pub decreases-read_tested-loop-test : goal.decreases-read_tested-loop-test
decreases-read_tested-loop-test l = length l.rest
