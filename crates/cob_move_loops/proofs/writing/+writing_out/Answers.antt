use Rattle.std.proofs.Common.{◌≡◌, ◌++◌, ◌∷◌, [], List, ◌∙◌, ap, arith, refl}
use Rattle.cob_source.specs.Tokens.{lexemes}
use Rattle.cob_move_loops.specs.Reading.{all_runs, counters, item_front, written_loop}
use Rattle.cob_move_loops.specs.Turns.{Counted, counter_at, words_by_turn}
use Rattle.cob_move_loops.proofs.PassageLemmas.{shorter}
use Rattle.cob_move_loops.proofs.WritingLemmas.{counters_more, left_end, left_first, left_more, turns_done, turns_first, turns_next}
use Rattle.cob_move_loops.proofs.writing.+writing_out.Goals as goal

pub write_all-loop-item-init : goal.write_all-loop-item-init
write_all-loop-item-init t c = record {
  left = left_first c.args.place (counters c.args.turn.now) (lexemes c.args.words.now) c.args.out.now.items;
  fewer = omega arith;
}

pub write_all-loop-item-preserved : goal.write_all-loop-item-preserved
write_all-loop-item-preserved t c =
    let f = item_front c.in-Some.item in
    let less = shorter c.args.place f (lexemes c.loop-item.rest.now) (lexemes c.in-Some.more.now) c.in-Some.ensures.found in record {
      left = left_more c.args.place (counters c.args.turn.now) (lexemes c.args.words.now) (lexemes c.loop-item.rest.now) (lexemes c.in-Some.more.now) f c.args.out.now.items c.loop-item.out.items c.write_item.new.out.items
          c.loop-item.invariant.left (omega (arith, less)) c.in-Some.ensures.only c.in_ok-write_item.ensures;
      fewer = omega (arith, c.loop-item.invariant.fewer, less);
    }

pub write_all-loop-item-smaller : goal.write_all-loop-item-smaller
write_all-loop-item-smaller t c = shorter c.args.place (item_front c.in-Some.item) (lexemes c.loop-item.rest.now) (lexemes c.in-Some.more.now) c.in-Some.ensures.found

pub write_all-returns : goal.write_all-returns
write_all-returns t c =
    left_end c.args.place (counters c.args.turn.now) (lexemes c.args.words.now) (lexemes c.loop-item.rest.now) c.args.out.now.items c.loop-item.out.items c.loop-item.invariant.left c.in_default.ensures.only

pub write_turns-loop-left-init : goal.write_turns-loop-left-init
write_turns-loop-left-init t c = record {
  left = turns_first (counters c.args.turn.now) (lexemes c.args.body.now) (written_loop c.args.head.now) c.turns_to_write-left.result c.args.head.now.from c.args.out.now.items c.turns_to_write-left.ensures refl;
}

pub write_turns-loop-left-preserved : goal.write_turns-loop-left-preserved
write_turns-loop-left-preserved t c =
    let ns = counters c.args.turn.now in
    let l = written_loop c.args.head.now in
    let inner : counters c.as_slice.result.now ≡ ns ++ counter_at l c.loop-left.number ∷ [] = ap counters (c.as_slice.ensures.value ∙ c.in_ok-inner.ensures) ∙ counters_more c.args.turn.now _ in
    record {
      left = turns_next ns (lexemes c.args.body.now) l c.loop-left.left c.loop-left.number c.in_ok-next.next c.args.out.now.items c.loop-left.out.items c.write_all.new.out.items
          (omega (arith, c.loop-left-test.true)) c.loop-left.invariant.left
          (λ p is. c.in_ok-write_all.ensures p is ∙ ap (λ (n : List Counted). all_runs c.loop-left.out.items ++ words_by_turn n p) inner)
          c.in_ok-next.ensures;
    }

pub write_turns-returns : goal.write_turns-returns
write_turns-returns t c =
    turns_done (counters c.args.turn.now) (lexemes c.args.body.now) (written_loop c.args.head.now) c.loop-left.left c.loop-left.number c.args.out.now.items c.loop-left.out.items (omega (arith, c.loop-left-test.false)) c.loop-left.invariant.left
