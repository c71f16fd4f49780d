use Rattle.std.proofs.Common.{arith}
use Rattle.std.proofs.lemmas.Result.{err_from_is_err_and}
use Rattle.cob_source.specs.Tokens.{lexemes}
use Rattle.cob_move_loops.specs.Reading.{item_front}
use Rattle.cob_move_loops.proofs.BoundedLemmas.{bounds_end, bounds_first, bounds_lack, bounds_more}
use Rattle.cob_move_loops.proofs.PassageLemmas.{shorter}
use Rattle.cob_move_loops.proofs.bounded.+bounding.Goals as goal

pub check_all-loop-item-init : goal.check_all-loop-item-init
check_all-loop-item-init t c = record { left = bounds_first c.args.place (lexemes c.args.words.now); fewer = omega arith }

pub check_all-loop-item-preserved : goal.check_all-loop-item-preserved
check_all-loop-item-preserved t c =
    let f = item_front c.in-Some.item in
    let less = shorter c.args.place f (lexemes c.loop-item.rest.now) (lexemes c.in-Some.more.now) c.in-Some.ensures.found in record {
      left = bounds_more c.args.place (lexemes c.args.words.now) (lexemes c.loop-item.rest.now) (lexemes c.in-Some.more.now) f c.loop-item.invariant.left (omega (arith, less)) c.in-Some.ensures.only c.in_ok-check_item.ensures.bounded;
      fewer = omega (arith, c.loop-item.invariant.fewer, less);
    }

pub check_all-loop-item-smaller : goal.check_all-loop-item-smaller
check_all-loop-item-smaller t c = shorter c.args.place (item_front c.in-Some.item) (lexemes c.loop-item.rest.now) (lexemes c.in-Some.more.now) c.in-Some.ensures.found

pub check_all-returns-in_err-check_item-clause-line : goal.check_all-returns-in_err-check_item-clause-line
check_all-returns-in_err-check_item-clause-line t c =
    let f = item_front c.in-Some.item in
    let less = shorter c.args.place f (lexemes c.loop-item.rest.now) (lexemes c.in-Some.more.now) c.in-Some.ensures.found in
    let p = err_from_is_err_and c.from_residual.result c.from_residual.ensures.1 in
    rw (p.1, p.2) (bounds_lack c.args.place (lexemes c.args.words.now) (lexemes c.loop-item.rest.now) (lexemes c.in-Some.more.now) f c.in_err-check_item.field-0.0 c.loop-item.invariant.left (omega (arith, less)) c.in-Some.ensures.only c.in_err-check_item.ensures.line)

pub check_all-returns-clause-bounded : goal.check_all-returns-clause-bounded
check_all-returns-clause-bounded t c = bounds_end c.args.place (lexemes c.args.words.now) (lexemes c.loop-item.rest.now) c.loop-item.invariant.left c.in_default.ensures.only
