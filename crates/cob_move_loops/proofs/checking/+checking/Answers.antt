use Rattle.std.proofs.Common.{arith}
use Rattle.std.proofs.lemmas.Result.{err_from_is_err_and}
use Rattle.cob_source.specs.Tokens.{lexemes}
use Rattle.cob_move_loops.specs.Passages.{breaks_here}
use Rattle.cob_move_loops.specs.Reading.{item_front}
use Rattle.cob_move_loops.proofs.PassageLemmas.{broken_within, checked_all, checked_first, checked_more, none_left, shorter, some_left}
use Rattle.cob_move_loops.proofs.checking.+checking.Goals as goal

pub check_at-loop-rest-init : goal.check_at-loop-rest-init
check_at-loop-rest-init t c = record { checked = checked_first c.args.place (lexemes c.args.words.now); fewer = omega arith }

pub check_at-loop-rest-preserved : goal.check_at-loop-rest-preserved
check_at-loop-rest-preserved t c =
    let f = item_front c.in-Some.item in
    let less = shorter c.args.place f (lexemes c.loop-rest.rest.now) (lexemes c.in-Some.more.now) c.in-Some.ensures.found in record {
      checked = checked_more c.args.place (lexemes c.args.words.now) (lexemes c.loop-rest.rest.now) (lexemes c.in-Some.more.now) f c.loop-rest.invariant.checked c.in-Some.ensures.found c.in_ok-check_item.ensures.found;
      fewer = omega (arith, c.loop-rest.invariant.fewer, less);
    }

pub check_at-loop-rest-smaller : goal.check_at-loop-rest-smaller
check_at-loop-rest-smaller t c = shorter c.args.place (item_front c.in-Some.item) (lexemes c.loop-rest.rest.now) (lexemes c.in-Some.more.now) c.in-Some.ensures.found

pub check_at-returns-in_err-check_item-clause-line : goal.check_at-returns-in_err-check_item-clause-line
check_at-returns-in_err-check_item-clause-line t c =
    let p = err_from_is_err_and c.from_residual.result c.from_residual.ensures.1 in
    rw (p.1, p.2) (broken_within c.args.place (lexemes c.args.words.now) (lexemes c.loop-rest.rest.now) (lexemes c.in-Some.more.now) (item_front c.in-Some.item) c.in_err-check_item.field-0.0 c.loop-rest.invariant.checked c.in-Some.ensures.found c.in_err-check_item.ensures.line)

pub check_at-returns-in_default-clause-line : goal.check_at-returns-in_default-clause-line
check_at-returns-in_default-clause-line t c =
    c.loop-rest.invariant.checked.broken c.first_line.result (breaks_here c.args.place (lexemes c.loop-rest.rest.now) c.first_line.result (some_left c.loop-rest.rest.now c.is_empty.result c.is_empty.ensures c.loop-rest-test.true) c.in_default.ensures.only c.first_line.ensures)

pub check_at-returns-clause-found : goal.check_at-returns-clause-found
check_at-returns-clause-found t c =
    checked_all c.args.place (lexemes c.args.words.now) (lexemes c.loop-rest.rest.now) c.loop-rest.invariant.checked (none_left c.loop-rest.rest.now c.is_empty.result c.is_empty.ensures c.loop-rest-test.false)
