use Rattle.std.proofs.Common.{◌≡◌, ℕ, ◌≤◌, ◌+◌, ◌-◌, ◌*◌, [], length}
use Rattle.std.specs.Prelude.{IsTrue}
use Rattle.cob_source.specs.Tokens.{lexemes}
use Rattle.cob_move_loops.specs.Reading.{counters, item_front, written_loop}
use Rattle.cob_move_loops.proofs.FrontLemmas.{front_size}
use Rattle.cob_move.specs.Between.{ArePairsOf}
use Rattle.cob_move_choices.specs.Asked.{against}
use Rattle.cob_move_tests.specs.Asked.{IsAsked, kind_named, sender_named}
use Rattle.cob_move.specs.DeedsRead.{AddsTurns, HasBounds, HasGrown, HaveBounds, IsMade, IsSure, LeftOfBranches, MayBeTestedOr, flow_lists, in_its_turn, made_lists, open_statements, taken_branches}
use Rattle.cob_move_tests.specs.Entries.{records_of}
use Rattle.cob_move.proofs.ReadingLemmas.{LeftOfDeeds}
use Rattle.cob_move.proofs.TestedLemmas.{HasTried}
use Rattle.cob_move.proofs.deeds.+adding.Given as goal

abbrev pub decreases-add_passage : goal.decreases-add_passage
decreases-add_passage l = 6 * length (lexemes l.words.now)

abbrev pub decreases-add_item : goal.decreases-add_item
decreases-add_item l = 6 * front_size (item_front l.item.now) + 5

abbrev pub decreases-add_tested : goal.decreases-add_tested
decreases-add_tested l = 6 * length (lexemes l.body.now) + 4

abbrev pub decreases-try_turns : goal.decreases-try_turns
decreases-try_turns l = 6 * length (lexemes l.body.now) + 3

abbrev pub decreases-add_turns : goal.decreases-add_turns
decreases-add_turns l = 6 * length (lexemes l.body.now) + 3

abbrev pub decreases-try_turn : goal.decreases-try_turn
decreases-try_turn l = 6 * length (lexemes l.body.now) + 2

abbrev pub decreases-add_turn : goal.decreases-add_turn
decreases-add_turn l = 6 * length (lexemes l.body.now) + 1

abbrev pub invariant-add_passage-loop-item : goal.invariant-add_passage-loop-item
invariant-add_passage-loop-item l = record {
  left : LeftOfDeeds l.entries (counters l.turn) (lexemes l.words) (lexemes l.rest) (made_lists l.fn.made) (made_lists l.made);
  fewer : length (lexemes l.rest) ≤ length (lexemes l.words);
  bounds : HasBounds (lexemes l.rest);
  made : IsMade (records_of l.entries) (made_lists l.made);
  grown : HasGrown (made_lists l.fn.made) (made_lists l.made);
  pairs : ArePairsOf (records_of l.entries) l.pairs;
}

abbrev pub decreases-add_passage-loop-item : goal.decreases-add_passage-loop-item
decreases-add_passage-loop-item l = length (lexemes l.rest)

abbrev pub decreases-add_turns-loop-done : goal.decreases-add_turns-loop-done
decreases-add_turns-loop-done l = l.turns - l.done

abbrev pub invariant-add_turns-loop-done : goal.invariant-add_turns-loop-done
invariant-add_turns-loop-done l = record {
  few : l.done ≤ l.turns;
  at : l.number ≡ l.head.from + l.done * l.head.by;
  adds : AddsTurns l.entries (counters l.turn) (written_loop l.head) (lexemes l.body) l.done (made_lists l.fn.made) (made_lists l.made);
  made : IsMade (records_of l.entries) (made_lists l.made);
  grown : HasGrown (made_lists l.fn.made) (made_lists l.made);
  pairs : ArePairsOf (records_of l.entries) l.pairs;
}

abbrev pub invariant-try_turns-loop-step : goal.invariant-try_turns-loop-step
invariant-try_turns-loop-step l = record {
  tried : HasTried l.entries (counters l.turn) (written_loop l.head) (lexemes l.body) (l.head.from + l.step) l.next (flow_lists l.turns.items) (made_lists l.fn.made) (made_lists l.made);
  sure : IsTrue l.sure → IsSure l.entries (in_its_turn (counters l.turn) (written_loop l.head) (l.head.from + l.step)) (lexemes l.body) (made_lists l.made).read;
  pairs : ArePairsOf (records_of l.entries) l.pairs;
}

abbrev pub decreases-add_choice : goal.decreases-add_choice
decreases-add_choice l = 6 * length (lexemes l.branches.now) + 4

abbrev pub decreases-add_branches : goal.decreases-add_branches
decreases-add_branches l = 6 * length (lexemes l.branches.now) + 3

abbrev pub decreases-add_branch : goal.decreases-add_branch
decreases-add_branch l = 6 * length (lexemes l.words.now) + 2

abbrev pub decreases-add_apart : goal.decreases-add_apart
decreases-add_apart l = 6 * length (lexemes l.words.now) + 1

abbrev pub invariant-add_branches-loop-test : goal.invariant-add_branches-loop-test
invariant-add_branches-loop-test l = record {
  left : LeftOfBranches l.entries (counters l.turn) (against (sender_named (records_of l.entries) l.fn.made.asked.items) l.subject) l.kind (lexemes l.branches) (lexemes l.rest) l.waiting (taken_branches l.taken.items) (made_lists l.fn.made)
      (made_lists l.made);
  fewer : length (lexemes l.rest) ≤ length (lexemes l.branches);
  bounds : HaveBounds l.kind (lexemes l.rest);
  waits : MayBeTestedOr (IsAsked l.made.asked.items) (kind_named (records_of l.entries) l.made.asked.items) l.waiting;
  made : IsMade (records_of l.entries) (made_lists l.made);
  grown : HasGrown (made_lists l.fn.made) (made_lists l.made);
  none : l.made.flows.items ≡ [];
  marked : open_statements (made_lists l.made) ≡ [];
  pairs : ArePairsOf (records_of l.entries) l.pairs;
}

abbrev pub decreases-add_branches-loop-test : goal.decreases-add_branches-loop-test
decreases-add_branches-loop-test l = length (lexemes l.rest)
