use Rattle.std.proofs.Common.{ℕ, ◌*◌, ◌<◌, arith, subst}
use Rattle.cob_source.specs.Tokens.{lexemes}
use Rattle.cob_move_loops.specs.Few.{statements_of}
use Rattle.cob_limits.specs.Limits.{most_written_out}
use Rattle.cob_move_loops.specs.Reading.{item_front, statements_front}
use Rattle.cob_move_loops.proofs.CountLemmas.{count_end, count_first, count_more, count_over, if_none, statements_add, sum_over, times_over}
use Rattle.cob_move_loops.proofs.PassageLemmas.{shorter}
use Rattle.cob_move_loops.proofs.counting.+counting.Goals as goal

pub count_all-loop-item-init : goal.count_all-loop-item-init
count_all-loop-item-init t c = record { left = count_first c.args.place statements_of (lexemes c.args.words.now); most = omega arith; fewer = omega arith }

pub count_all-loop-item-preserved : goal.count_all-loop-item-preserved
count_all-loop-item-preserved t c =
    let f = item_front c.in-Some.item in
    let less = shorter c.args.place f (lexemes c.loop-item.rest.now) (lexemes c.in-Some.more.now) c.in-Some.ensures.found in record {
      left = count_more c.args.place statements_of statements_front statements_add (lexemes c.args.words.now) (lexemes c.loop-item.rest.now) (lexemes c.in-Some.more.now) f c.loop-item.count c.in_ok-own.own c.in_ok-sum.sum
          c.loop-item.invariant.left (omega (arith, less)) c.in-Some.ensures.only c.in_ok-own.ensures.some c.in_ok-sum.ensures.some.0;
      most = c.in_ok-sum.ensures.some.1;
      fewer = omega (arith, c.loop-item.invariant.fewer, less);
    }

pub count_all-loop-item-smaller : goal.count_all-loop-item-smaller
count_all-loop-item-smaller t c = shorter c.args.place (item_front c.in-Some.item) (lexemes c.loop-item.rest.now) (lexemes c.in-Some.more.now) c.in-Some.ensures.found

pub count_all-returns-clause-some : goal.count_all-returns-clause-some
count_all-returns-clause-some t c =
    count_end c.args.place statements_of statements_front statements_add (lexemes c.args.words.now) (lexemes c.loop-item.rest.now) c.loop-item.count c.loop-item.invariant.left c.in_default.ensures.only

pub count_all-returns-in_err-own-clause-none : goal.count_all-returns-in_err-own-clause-none
count_all-returns-in_err-own-clause-none t c =
    let f = item_front c.in-Some.item in
    let less = shorter c.args.place f (lexemes c.loop-item.rest.now) (lexemes c.in-Some.more.now) c.in-Some.ensures.found in
    if_none c.from_residual.result (count_over c.args.place statements_of statements_front statements_add (lexemes c.args.words.now) (lexemes c.loop-item.rest.now) (lexemes c.in-Some.more.now) f c.loop-item.count most_written_out
    c.loop-item.invariant.left (omega (arith, less)) c.in-Some.ensures.only c.in_err-own.ensures.none)

pub count_all-returns-in_err-sum-clause-none : goal.count_all-returns-in_err-sum-clause-none
count_all-returns-in_err-sum-clause-none t c =
    let f = item_front c.in-Some.item in
    let less = shorter c.args.place f (lexemes c.loop-item.rest.now) (lexemes c.in-Some.more.now) c.in-Some.ensures.found in
    if_none c.from_residual-in_err-sum.result (sum_over c.args.place statements_of statements_front statements_add (lexemes c.args.words.now) (lexemes c.loop-item.rest.now) (lexemes c.in-Some.more.now) f c.loop-item.count c.in_ok-own.own most_written_out
    c.loop-item.invariant.left (omega (arith, less)) c.in-Some.ensures.only c.in_ok-own.ensures.some c.in_err-sum.ensures.none)

pub count_turns-returns-in_err-own-clause-none : goal.count_turns-returns-in_err-own-clause-none
count_turns-returns-in_err-own-clause-none t c =
    if_none c.from_residual.result (λ p is.
    subst (λ (n : ℕ). most_written_out < n * statements_of p) c.turns_of-turns.ensures (times_over c.turns_of-turns.result (statements_of p) most_written_out (omega (arith, c.if-turns-eq0.false)) (c.in_err-own.ensures.none p is)))

pub count_choice-returns-in_err-own-clause-none : goal.count_choice-returns-in_err-own-clause-none
count_choice-returns-in_err-own-clause-none t c =
    if_none c.from_residual.result (λ p is. omega (arith, c.in_err-own.ensures.none p is))
