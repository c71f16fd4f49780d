use Rattle.std.proofs.Common.{arith}
use Rattle.cob_source.specs.Tokens.{lexemes}
use Rattle.cob_move_loops.specs.Reading.{item_front}
use Rattle.cob_move_loops.proofs.BoundedLemmas.{search_end, search_first, search_found, search_more}
use Rattle.cob_move_loops.proofs.PassageLemmas.{shorter}
use Rattle.cob_move_loops.proofs.bounded.+searching.Goals as goal

pub has_subscript-loop-item-init : goal.has_subscript-loop-item-init
has_subscript-loop-item-init t c = record { left = search_first c.args.place c.args.name.now (lexemes c.args.words.now); fewer = omega arith }

pub has_subscript-loop-item-preserved : goal.has_subscript-loop-item-preserved
has_subscript-loop-item-preserved t c =
    let f = item_front c.in-Some.item in
    let less = shorter c.args.place f (lexemes c.loop-item.rest.now) (lexemes c.in-Some.more.now) c.in-Some.ensures.found in record {
      left = search_more c.args.place c.args.name.now (lexemes c.args.words.now) (lexemes c.loop-item.rest.now) (lexemes c.in-Some.more.now) f c.is_in_item.result
          c.loop-item.invariant.left (omega (arith, less)) c.in-Some.ensures.only c.is_in_item.ensures c.if-is_in_item.false;
      fewer = omega (arith, c.loop-item.invariant.fewer, less);
    }

pub has_subscript-loop-item-smaller : goal.has_subscript-loop-item-smaller
has_subscript-loop-item-smaller t c = shorter c.args.place (item_front c.in-Some.item) (lexemes c.loop-item.rest.now) (lexemes c.in-Some.more.now) c.in-Some.ensures.found

pub has_subscript-returns-then-is_in_item : goal.has_subscript-returns-then-is_in_item
has_subscript-returns-then-is_in_item t c =
    let f = item_front c.in-Some.item in
    let less = shorter c.args.place f (lexemes c.loop-item.rest.now) (lexemes c.in-Some.more.now) c.in-Some.ensures.found in
    search_found c.args.place c.args.name.now (lexemes c.args.words.now) (lexemes c.loop-item.rest.now) (lexemes c.in-Some.more.now) f c.is_in_item.result
    c.loop-item.invariant.left (omega (arith, less)) c.in-Some.ensures.only c.is_in_item.ensures c.if-is_in_item.true

pub has_subscript-returns : goal.has_subscript-returns
has_subscript-returns t c = search_end c.args.place c.args.name.now (lexemes c.args.words.now) (lexemes c.loop-item.rest.now) c.loop-item.invariant.left c.in_default.ensures.only
