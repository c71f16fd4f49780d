use Rattle.std.proofs.Common.{arith}
use Rattle.cob_source.specs.Tokens.{lexemes}
use Rattle.cob_move_loops.specs.Few.{looped_of}
use Rattle.cob_limits.specs.Limits.{most_written_out}
use Rattle.cob_move_loops.specs.Reading.{item_front, looped_front}
use Rattle.cob_move_loops.proofs.CountLemmas.{count_end, count_first, count_more, count_over, if_none, looped_add, sum_over}
use Rattle.cob_move_loops.proofs.PassageLemmas.{shorter}
use Rattle.cob_move_loops.proofs.counting.+counting_loops.Goals as goal

pub count_loops-loop-item-init : goal.count_loops-loop-item-init
count_loops-loop-item-init t c = record { left = count_first c.args.place looped_of (lexemes c.args.words.now); most = omega arith; fewer = omega arith }

pub count_loops-loop-item-preserved : goal.count_loops-loop-item-preserved
count_loops-loop-item-preserved t c =
    let f = item_front c.in-Some.item in
    let less = shorter c.args.place f (lexemes c.loop-item.rest.now) (lexemes c.in-Some.more.now) c.in-Some.ensures.found in record {
      left = count_more c.args.place looped_of looped_front looped_add (lexemes c.args.words.now) (lexemes c.loop-item.rest.now) (lexemes c.in-Some.more.now) f c.loop-item.count c.in_ok-own.own c.in_ok-sum.sum
          c.loop-item.invariant.left (omega (arith, less)) c.in-Some.ensures.only c.in_ok-own.ensures.some c.in_ok-sum.ensures.some.0;
      most = c.in_ok-sum.ensures.some.1;
      fewer = omega (arith, c.loop-item.invariant.fewer, less);
    }

pub count_loops-loop-item-smaller : goal.count_loops-loop-item-smaller
count_loops-loop-item-smaller t c = shorter c.args.place (item_front c.in-Some.item) (lexemes c.loop-item.rest.now) (lexemes c.in-Some.more.now) c.in-Some.ensures.found

pub count_loops-returns-clause-some : goal.count_loops-returns-clause-some
count_loops-returns-clause-some t c =
    count_end c.args.place looped_of looped_front looped_add (lexemes c.args.words.now) (lexemes c.loop-item.rest.now) c.loop-item.count c.loop-item.invariant.left c.in_default.ensures.only

pub count_loops-returns-in_err-own-clause-none : goal.count_loops-returns-in_err-own-clause-none
count_loops-returns-in_err-own-clause-none t c =
    let f = item_front c.in-Some.item in
    let less = shorter c.args.place f (lexemes c.loop-item.rest.now) (lexemes c.in-Some.more.now) c.in-Some.ensures.found in
    if_none c.from_residual.result (count_over c.args.place looped_of looped_front looped_add (lexemes c.args.words.now) (lexemes c.loop-item.rest.now) (lexemes c.in-Some.more.now) f c.loop-item.count most_written_out
    c.loop-item.invariant.left (omega (arith, less)) c.in-Some.ensures.only c.in_err-own.ensures.none)

pub count_loops-returns-in_err-sum-clause-none : goal.count_loops-returns-in_err-sum-clause-none
count_loops-returns-in_err-sum-clause-none t c =
    let f = item_front c.in-Some.item in
    let less = shorter c.args.place f (lexemes c.loop-item.rest.now) (lexemes c.in-Some.more.now) c.in-Some.ensures.found in
    if_none c.from_residual-in_err-sum.result (sum_over c.args.place looped_of looped_front looped_add (lexemes c.args.words.now) (lexemes c.loop-item.rest.now) (lexemes c.in-Some.more.now) f c.loop-item.count c.in_ok-own.own most_written_out
    c.loop-item.invariant.left (omega (arith, less)) c.in-Some.ensures.only c.in_ok-own.ensures.some c.in_err-sum.ensures.none)
