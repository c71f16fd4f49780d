use Rattle.std.proofs.Common.{sym, ap, ◌∙◌, arith}
use Rattle.cob_picture.specs.Counts.{is_digit_place}
use Rattle.cob_picture.proofs.Placed.{run_floats, run_begins, run_settled_yes, run_settled_no}
use Rattle.cob_picture.proofs.counts.digits_in.Goals as goal

pub returns-then-seen-clause-value : goal.returns-then-seen-clause-value
returns-then-seen-clause-value c = let h = run_floats c.args.category c.args.floating c.args.run.symbol c.args.run.count (sym c.is_that.ensures ∙ c.if-is_that.true) in rw c.if-seen.true (c.from-count.ensures ∙ sym h)

pub returns-else-seen-clause-value : goal.returns-else-seen-clause-value
returns-else-seen-clause-value c = let h = run_begins c.args.category c.args.floating c.args.run.symbol c.args.run.count (sym c.is_that.ensures ∙ c.if-is_that.true) in rw (c.if-seen.false, h) (omega (arith, c.from-count.ensures, c.saturating_sub.ensures))

pub returns-then-is_digit_place-clause-value : goal.returns-then-is_digit_place-clause-value
returns-then-is_digit_place-clause-value c =
    let digit = ap is_digit_place (sym c.settled_role.ensures) ∙ sym c.is_digit_place.ensures ∙ c.if-is_digit_place.true in
    let h = run_settled_yes c.args.category c.args.floating c.args.run.symbol c.args.run.count c.args.seen (sym c.is_that.ensures ∙ c.if-is_that.false) digit in
    c.from-count.ensures ∙ sym h

pub returns-else-is_digit_place-clause-value : goal.returns-else-is_digit_place-clause-value
returns-else-is_digit_place-clause-value c =
    let digit = ap is_digit_place (sym c.settled_role.ensures) ∙ sym c.is_digit_place.ensures ∙ c.if-is_digit_place.false in
    let h = run_settled_no c.args.category c.args.floating c.args.run.symbol c.args.run.count c.args.seen (sym c.is_that.ensures ∙ c.if-is_that.false) digit in
    sym h
