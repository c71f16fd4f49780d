use Rattle.std.proofs.Common.{◌≡◌, ℕ, ◌<◌, cond, length, take, count_by, subst, sym, ap, inl, inr, arith}
use Rattle.std.proofs.lemmas.Bool.{cases_lt}
use Rattle.cob_edit.specs.Places.{is_digit}
use Rattle.cob_edit.specs.Editing.{place_at, IsSuppressedTo}
use Rattle.cob_edit.proofs.RowLemmas.{cut_here, cut_end, digits_more, one_digit, one_is}
use Rattle.cob_edit.proofs.rows.cut_within.Goals as goal

pub returns-then-digits-left-clause-cut : goal.returns-then-digits-left-clause-cut
returns-then-digits-left-clause-cut c = λ ds long front.
    let ps = c.args.places.now in
    let at : ℕ = c.loop-at.at in
    let inside : at < length ps = omega arith in
    let more : c.loop-at.left < cond {A = ℕ} (is_digit (place_at ps at)) 1 0 = omega (arith, c.digits_of-digits.ensures) in
    let one = one_digit (is_digit (place_at ps at)) c.loop-at.left more in
    let none : c.loop-at.left ≡ 0 = one.1 in
    let count : count_by is_digit (take at ps) ≡ c.args.zeros = omega (arith, none, c.loop-at.invariant.next) in
    cut_here ps ds at c.args.zeros (omega (arith, c.requires.start)) (omega (arith, c.requires.end)) inside count one.0
    (λ j lt from is. c.loop-at.invariant.before j lt (omega (arith, c.requires.start)) is) long front

pub loop-at-preserved : goal.loop-at-preserved
loop-at-preserved c =
    let ps = c.args.places.now in
    let at : ℕ = c.loop-at.at in
    let inside : at < length ps = omega arith in
    record {
      next = omega (arith, digits_more ps at inside, c.digits_of-digits.ensures, c.loop-at.invariant.next);
      before = λ j lt from is.
          elim (cases_lt j at) [
            | inl before ↦ c.loop-at.invariant.before j before from is
            | inr ge ↦
                let same : j ≡ at = omega arith in
                let one : cond {A = ℕ} (is_digit (place_at ps at)) 1 0 ≡ 1 = subst (λ k. cond {A = ℕ} (is_digit (place_at ps k)) 1 0 ≡ 1) same (one_is _ is) in
                let count : count_by is_digit (take j ps) ≡ count_by is_digit (take at ps) = ap (λ k. count_by is_digit (take k ps)) same in
                omega (arith, one, count, c.digits_of-digits.ensures, c.loop-at.invariant.next)
          ];
    }

pub returns-clause-cut : goal.returns-clause-cut
returns-clause-cut c = λ ds long front.
    let ps = c.args.places.now in
    subst (λ k. IsSuppressedTo ps ds k) (sym c.requires.end)
    (cut_end ps ds c.args.zeros (omega (arith, c.requires.start, c.requires.end, c.requires.order))
    (λ j lt from is. c.loop-at.invariant.before j (omega (arith, c.requires.end)) (omega (arith, c.requires.start)) is) front)
