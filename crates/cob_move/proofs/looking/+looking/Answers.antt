use Rattle.std.proofs.Common.{◌≡◌, ◌+◌, ◌++◌, ◌∷◌, [], List, ℕ, ◌∙◌, ap, arith, false, length, refl, subst, sym}
use Rattle.std.specs.Prelude.{IfErr}
use Rattle.std.proofs.lemmas.Result.{IfErr-weaker, err_from_is_err_and}
use Rattle.cob_source.specs.Tokens.{lexemes}
use Rattle.cob_move_loops.specs.declared.front.PassageItem.{PassageItem}
use Rattle.cob_move_loops.specs.Reading.{counters, item_front, written_bound, written_loop}
use Rattle.cob_move_loops.specs.Passages.{ARun, PassageFront}
use Rattle.cob_move_loops.specs.Turns.{Counted, counter_at}
use Rattle.cob_move_loops.specs.declared.parts.Place.TheVariants as standing
use Rattle.cob_move_loops.proofs.FrontLemmas.{front_size, front_smaller}
use Rattle.cob_move_loops.proofs.PassageLemmas.{shorter}
use Rattle.cob_move_loops.proofs.WritingLemmas.{counters_more}
use Rattle.cob_move.specs.DeedsRead.{FrontStops, LoopStops, RunRefusedIn, StopsAt, WordsStop, in_its_turn}
use Rattle.cob_move.proofs.LookLemmas.{bound_stops, item_stops, look_first, look_more, look_stops, loop_stops}
use Rattle.cob_move.proofs.looking.+looking.Goals as goal

pub look_at_passage-loop-item-init : goal.look_at_passage-loop-item-init
look_at_passage-loop-item-init t c = record {
  left = look_first c.args.entries.now (counters c.args.turn.now) (lexemes c.args.words.now);
  fewer = omega arith;
  pairs = c.requires.pairs;
}

pub look_at_passage-loop-item-preserved : goal.look_at_passage-loop-item-preserved
look_at_passage-loop-item-preserved t c =
    let f = item_front c.in-Some.item in
    let rest = lexemes c.loop-item.rest.now in
    let more = lexemes c.in-Some.more.now in
    let less = shorter standing.Statements f rest more c.in-Some.ensures.found in record {
      left = look_more c.args.entries.now (counters c.args.turn.now) (lexemes c.args.words.now) rest more f c.loop-item.invariant.left (omega (arith, less)) c.in-Some.ensures.only;
      fewer = omega (arith, c.loop-item.invariant.fewer, less);
      pairs = c.in_ok-look_at_item.ensures.pairs;
    }

pub look_at_passage-loop-item-smaller : goal.look_at_passage-loop-item-smaller
look_at_passage-loop-item-smaller t c = shorter standing.Statements (item_front c.in-Some.item) (lexemes c.loop-item.rest.now) (lexemes c.in-Some.more.now) c.in-Some.ensures.found

pub look_at_passage-returns-in_err-look_at_item-clause-stops : goal.look_at_passage-returns-in_err-look_at_item-clause-stops
look_at_passage-returns-in_err-look_at_item-clause-stops t c =
    let f = item_front c.in-Some.item in
    let rest = lexemes c.loop-item.rest.now in
    let more = lexemes c.in-Some.more.now in
    let less = shorter standing.Statements f rest more c.in-Some.ensures.found in
    let p = err_from_is_err_and c.from_residual.result c.from_residual.ensures.1 in
    rw (p.1, p.2) (look_stops c.in_err-look_at_item.field-0.0 c.args.entries.now (counters c.args.turn.now) (lexemes c.args.words.now) rest more f c.loop-item.invariant.left (omega (arith, less)) c.in-Some.ensures.only c.in_err-look_at_item.ensures.stops)

pub look_at_passage-look_at_item-requires : goal.look_at_passage-look_at_item-requires
look_at_passage-look_at_item-requires t c =
    let less = front_smaller standing.Statements (item_front c.in-Some.item) (lexemes c.loop-item.rest.now) (lexemes c.in-Some.more.now) c.in-Some.ensures.found in
    (omega (arith, c.decreases, less, c.loop-item.invariant.fewer), (c.requires.named, c.loop-item.invariant.pairs))

pub look_at_first-returns-clause-stops : goal.look_at_first-returns-clause-stops
look_at_first-returns-clause-stops t c =
    let ns = counters c.args.turn.now in
    let l = written_loop c.args.head.now in
    let inner : counters c.as_slice.result.now ≡ ns ++ counter_at l c.args.head.now.from ∷ [] = ap counters (c.as_slice.ensures.value ∙ c.in_ok-inner.ensures) ∙ counters_more c.args.turn.now _ in
    subst (λ (n : List Counted). IfErr c.look_at_passage.result (λ k. WordsStop k c.args.entries.now n (lexemes c.args.body.now))) inner c.look_at_passage.ensures.stops

pub look_at_first-returns-in_err-inner-clause-stops : goal.look_at_first-returns-in_err-inner-clause-stops
look_at_first-returns-in_err-inner-clause-stops t c =
    let p = err_from_is_err_and c.from_residual.result c.from_residual.ensures.1 in
    rw (p.1, p.2) (λ p is. tt)

pub look_at_loop-returns-else-most-head-clause-stops : goal.look_at_loop-returns-else-most-head-clause-stops
look_at_loop-returns-else-most-head-clause-stops t c =
    let e = c.args.entries.now in
    let ns = counters c.args.turn.now in
    let l = written_loop c.args.head.now in
    let body = lexemes c.args.body.now in
    IfErr-weaker c.look_at_first.result (λ n. WordsStop n e (in_its_turn ns l c.args.head.now.from) body) (λ n. LoopStops n e ns l body)
    (λ n stop. loop_stops n e ns l c.in-Number.most body (ap written_bound c.in-Number.is) (omega (arith, c.if-most-head.false)) stop) c.look_at_first.ensures.stops

pub look_at_loop-returns-in_err-read_bound-in-Item-clause-stops : goal.look_at_loop-returns-in_err-read_bound-in-Item-clause-stops
look_at_loop-returns-in_err-read_bound-in-Item-clause-stops t c =
    let p = err_from_is_err_and c.from_residual.result c.from_residual.ensures.1 in
    rw (p.1, p.2) (bound_stops c.in_err-read_bound-in-Item.field-0.0 c.args.entries.now (counters c.args.turn.now) (written_loop c.args.head.now) (lexemes c.in-Item.words.now) (lexemes c.args.body.now)
    (ap written_bound c.in-Item.is) c.in_err-read_bound-in-Item.ensures.fault)

pub look_at_loop-returns-in_ok-read_bound-in-Item-clause-stops : goal.look_at_loop-returns-in_ok-read_bound-in-Item-clause-stops
look_at_loop-returns-in_ok-read_bound-in-Item-clause-stops t c =
    let e = c.args.entries.now in
    let ns = counters c.args.turn.now in
    let l = written_loop c.args.head.now in
    let body = lexemes c.args.body.now in
    IfErr-weaker c.look_at_first-in-Item.result (λ n. WordsStop n e (in_its_turn ns l c.args.head.now.from) body) (λ n. LoopStops n e ns l body)
    (λ n stop. item_stops n e ns l (lexemes c.in-Item.words.now) body (ap written_bound c.in-Item.is) stop) c.look_at_first-in-Item.ensures.stops

pub look_at_item-look_at_loop-requires : goal.look_at_item-look_at_loop-requires
look_at_item-look_at_loop-requires t c =
    let size : front_size (item_front c.args.item.now) ≡ length (lexemes c.in-Loop.body.now) = ap (λ (i : PassageItem). front_size (item_front i)) c.in-Loop.is in
    (omega (arith, c.decreases, size), (c.requires.named, c.requires.pairs))

pub look_at_item-returns-in-Run-clause-stops : goal.look_at_item-returns-in-Run-clause-stops
look_at_item-returns-in-Run-clause-stops t c =
    let e = c.args.entries.now in
    let ns = counters c.args.turn.now in
    let words = lexemes c.in-Run.words.now in
    subst (λ (f : PassageFront). IfErr c.look_at_run.result (λ n. FrontStops n e ns f)) (sym (ap item_front c.in-Run.is))
    (IfErr-weaker c.look_at_run.result (λ n. StopsAt n (λ g. RunRefusedIn g e ns words)) (λ n. FrontStops n e ns (ARun words)) (λ n stop p within. stop) c.look_at_run.ensures.stops)

pub look_at_item-returns-in-Loop-clause-stops : goal.look_at_item-returns-in-Loop-clause-stops
look_at_item-returns-in-Loop-clause-stops t c =
    subst (λ (f : PassageFront). IfErr c.look_at_loop.result (λ n. FrontStops n c.args.entries.now (counters c.args.turn.now) f)) (sym (ap item_front c.in-Loop.is)) c.look_at_loop.ensures.stops
