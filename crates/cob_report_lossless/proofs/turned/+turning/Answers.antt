use Rattle.std.proofs.Common.{◌∷◌, ◌++◌, ℕ, [], arith}
use Rattle.cob_source.specs.Tokens.{lexemes}
use Rattle.cob_move_loops.specs.declared.parts.Place.TheVariants as standing
use Rattle.cob_move_loops.specs.Passages.{Passage}
use Rattle.cob_move_loops.specs.Reading.{counters, item_front, written_loop, written_test}
use Rattle.cob_move_loops.specs.Turns.{counter_at}
use Rattle.cob_move_loops.proofs.PassageLemmas.{shorter}
use Rattle.cob_report_lossless.specs.Turned.{TellPassage, Telling, found_test, told_lines}
use Rattle.cob_report_lossless.proofs.TurnedLemmas.{last_told, no_words, none_in_branch, none_told, some_in_branch, some_words, tell_end, tell_more, tests_more, turns_more}
use Rattle.cob_report_lossless.proofs.turned.+turning.Goals as goal

pub read_passage-loop-item-preserved : goal.read_passage-loop-item-preserved
read_passage-loop-item-preserved t c =
    let f = item_front c.in-Some.item in
    let less = shorter c.args.place f (lexemes c.loop-item.left.now) (lexemes c.in-Some.more.now) c.in-Some.ensures.found in record {
      fewer = omega (arith, c.loop-item.invariant.fewer, less);
      flows = omega (arith, c.loop-item.invariant.flows, c.in_ok-rest.ensures.fewer);
      told = tell_more (counters c.args.turn.now) c.args.place (lexemes c.args.words.now) (lexemes c.loop-item.left.now) (lexemes c.in-Some.more.now) f c.args.flows.now c.loop-item.rest.now c.in_ok-rest.rest.now
          (told_lines c.args.lines.now) (told_lines c.loop-item.lines) (told_lines c.read_item.new.lines) c.loop-item.invariant.told (omega (arith, less)) c.in-Some.ensures.only c.in_ok-rest.ensures.told;
    }

pub read_passage-returns-clause-told : goal.read_passage-returns-clause-told
read_passage-returns-clause-told t c =
    tell_end (counters c.args.turn.now) c.args.place (lexemes c.args.words.now) (lexemes c.loop-item.left.now) c.args.flows.now c.loop-item.rest.now (told_lines c.args.lines.now) (told_lines c.loop-item.lines)
    c.loop-item.invariant.told c.in_default.ensures.only

pub read_tested-returns-then-test-eq0-clause-told : goal.read_tested-returns-then-test-eq0-clause-told
read_tested-returns-then-test-eq0-clause-told t c = λ p is.
    let one : ℕ → Telling = λ i. TellPassage (counters c.args.turn.now ++ counter_at (written_loop c.args.head.now) i ∷ []) standing.Statements p in
    last_told one (written_loop c.args.head.now) c.loop-test.number (found_test c.in-Some.test) c.args.flows.now c.loop-test.rest.now (told_lines c.args.lines.now) (told_lines c.loop-test.lines) (told_lines c.note.new.lines)
    c.in-Some.ensures.found (omega (arith, c.if-test-eq0.true)) c.in_ok-note.ensures (c.loop-test.invariant.told p is)

pub read_tested-loop-test-preserved : goal.read_tested-loop-test-preserved
read_tested-loop-test-preserved t c = record {
  flows = omega (arith, c.loop-test.invariant.flows, c.in-Some.ensures.fewer, c.in_ok-rest.ensures.fewer);
  told = λ p is.
      let one : ℕ → Telling = λ i. TellPassage (counters c.args.turn.now ++ counter_at (written_loop c.args.head.now) i ∷ []) standing.Statements p in
      tests_more one (written_loop c.args.head.now) c.loop-test.number c.in_ok-number.number (found_test c.in-Some.test) c.args.flows.now c.loop-test.rest.now c.in_ok-rest.rest.now
      (told_lines c.args.lines.now) (told_lines c.loop-test.lines) (told_lines c.read_turn.new.lines)
      c.in-Some.ensures.found (omega (arith, c.if-test-eq0.false)) c.in_ok-number.ensures (c.loop-test.invariant.told p is) (c.in_ok-rest.ensures.told p is);
}

pub read_tested-returns-clause-told : goal.read_tested-returns-clause-told
read_tested-returns-clause-told t c = λ p is.
    let one : ℕ → Telling = λ i. TellPassage (counters c.args.turn.now ++ counter_at (written_loop c.args.head.now) i ∷ []) standing.Statements p in
    none_told one (written_loop c.args.head.now) c.loop-test.number c.args.flows.now c.loop-test.rest.now (told_lines c.args.lines.now) (told_lines c.loop-test.lines) c.in_default.ensures.none (c.loop-test.invariant.told p is)

pub read_turns-loop-left-preserved : goal.read_turns-loop-left-preserved
read_turns-loop-left-preserved t c = record {
  flows = omega (arith, c.loop-left.invariant.flows, c.in_ok-rest.ensures.fewer);
  told = λ p is.
      let one : ℕ → Telling = λ i. TellPassage (counters c.args.turn.now ++ counter_at (written_loop c.args.head.now) i ∷ []) standing.Statements p in
      turns_more one c.args.head.now.by c.turns_to_write-turns.result c.args.head.now.from c.loop-left.left c.loop-left.number c.in_ok-number.number c.args.flows.now c.loop-left.rest.now c.in_ok-rest.rest.now
      (told_lines c.args.lines.now) (told_lines c.loop-left.lines) (told_lines c.read_turn.new.lines)
      (omega (arith, c.loop-left-test.true)) c.in_ok-number.ensures (c.loop-left.invariant.told p is) (c.in_ok-rest.ensures.told p is);
}

pub read_branch-returns-then-is_empty-clause-told : goal.read_branch-returns-then-is_empty-clause-told
read_branch-returns-then-is_empty-clause-told t c = λ p is.
    none_in_branch (TellPassage (counters c.args.turn.now) standing.Statements p) c.args.kind (written_test c.args.test) p (lexemes c.args.body.now) c.args.flows.now (told_lines c.args.lines.now)
    is (no_words c.args.body.now c.is_empty.result c.is_empty.ensures c.if-is_empty.true)

pub read_branch-returns-clause-told : goal.read_branch-returns-clause-told
read_branch-returns-clause-told t c = λ p is.
    some_in_branch (TellPassage (counters c.args.turn.now) standing.Statements p) c.args.kind (written_test c.args.test) p (lexemes c.args.body.now) c.args.flows.now c.behind_test-rest.result.now c.in_ok-left.left.now
    (told_lines c.args.lines.now) (told_lines c.behind_test-rest.new.lines) (told_lines c.read_passage.new.lines) is (some_words c.args.body.now c.is_empty.result c.is_empty.ensures c.if-is_empty.false)
    c.behind_test-rest.ensures.told (c.in_ok-left.ensures.told p is)
