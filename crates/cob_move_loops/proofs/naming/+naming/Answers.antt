use Rattle.std.proofs.Common.{arith}
use Rattle.std.proofs.lemmas.Result.{err_from_is_err_and}
use Rattle.cob_source.specs.Tokens.{lexemes}
use Rattle.cob_move_loops.specs.Reading.{ClashesIn, ClashesInFront, item_front, written_loops}
use Rattle.cob_move_loops.proofs.NamingLemmas.{clash_weaker, loops_clash, loops_end, loops_first, loops_more}
use Rattle.cob_move_loops.proofs.PassageLemmas.{shorter}
use Rattle.cob_move_loops.proofs.naming.+naming.Goals as goal

pub add_loops-loop-item-init : goal.add_loops-loop-item-init
add_loops-loop-item-init t c = record { left = loops_first c.args.place (written_loops c.args.around.now) (lexemes c.args.words.now) c.args.out.now.items; fewer = omega arith }

pub add_loops-loop-item-preserved : goal.add_loops-loop-item-preserved
add_loops-loop-item-preserved t c =
    let f = item_front c.in-Some.item in
    let less = shorter c.args.place f (lexemes c.loop-item.rest.now) (lexemes c.in-Some.more.now) c.in-Some.ensures.found in record {
      left = loops_more c.args.place (written_loops c.args.around.now) (lexemes c.args.words.now) (lexemes c.loop-item.rest.now) (lexemes c.in-Some.more.now) f c.args.out.now.items c.loop-item.out.items c.add_item.new.out.items
          c.loop-item.invariant.left (omega (arith, less)) c.in-Some.ensures.only c.in_ok-add_item.ensures.named;
      fewer = omega (arith, c.loop-item.invariant.fewer, less);
    }

pub add_loops-loop-item-smaller : goal.add_loops-loop-item-smaller
add_loops-loop-item-smaller t c = shorter c.args.place (item_front c.in-Some.item) (lexemes c.loop-item.rest.now) (lexemes c.in-Some.more.now) c.in-Some.ensures.found

pub add_loops-returns-clause-named : goal.add_loops-returns-clause-named
add_loops-returns-clause-named t c =
    loops_end c.args.place (written_loops c.args.around.now) (lexemes c.args.words.now) (lexemes c.loop-item.rest.now) c.args.out.now.items c.loop-item.out.items c.loop-item.invariant.left c.in_default.ensures.only

pub add_loops-returns-in_err-add_item-clause-clash : goal.add_loops-returns-in_err-add_item-clause-clash
add_loops-returns-in_err-add_item-clause-clash t c =
    let around = written_loops c.args.around.now in
    let f = item_front c.in-Some.item in
    let less = shorter c.args.place f (lexemes c.loop-item.rest.now) (lexemes c.in-Some.more.now) c.in-Some.ensures.found in
    let p = err_from_is_err_and c.from_residual.result c.from_residual.ensures.1 in
    rw (p.1, p.2) (clash_weaker (ClashesInFront around f) (ClashesIn c.args.place around (lexemes c.args.words.now)) c.in_err-add_item.field-0.0
    (λ line clash. loops_clash c.args.place around (lexemes c.args.words.now) (lexemes c.loop-item.rest.now) (lexemes c.in-Some.more.now) f c.args.out.now.items c.loop-item.out.items line
    c.loop-item.invariant.left (omega (arith, less)) c.in-Some.ensures.only clash) c.in_err-add_item.ensures.clash)
