use Rattle.std.proofs.Common.{◌≡◌, ◌<◌, ◌≤◌, ◌≤ℤ◌, pos, length, ◌∙◌, sym, arith, to_z, of_z, w16}
use Rattle.std.proofs.lemmas.Int.{ints, to_z-of_z}
use lib.IntN.{nat_abs}
use Rattle.cob_decimal.specs.Decimal.{IsDigits, number_of}
use Rattle.cob_decimal.proofs.DecimalLemmas.{digit_from, digit_in, digit_beyond, pos_abs}
use Rattle.cob_decimal.proofs.digits.Digits.digit.Goals as goal

pub returns-then-from_end-digits-clause-value : goal.returns-then-from_end-digits-clause-value
returns-then-from_end-digits-clause-value c =
    let digits : c.as_slice-digits.result.now ≡ c.args.self.now = c.as_slice-digits.ensures.value ∙ c.self.view_is in
    let is : IsDigits c.args.self.now = rw c.self.view_is at c.self.invariant in
    let low : pos 0 ≤ℤ c.args.power = grind (arith, ints) in
    let power : c.args.power ≡ pos (nat_abs c.args.power) = pos_abs c.args.power low in
    let whole : to_z w16 (of_z w16 c.args.power) ≡ c.args.power = to_z-of_z w16 c.args.power c.ranges.power in
    let inside : nat_abs c.args.power < length c.args.self.now = rw (← digits, ← whole) c.if-from_end-digits.true in
    rw (digits, whole) (sym (digit_from (number_of c.args.self.now) c.args.power _ power ∙ digit_in c.args.self.now _ is inside))

pub returns-else-from_end-digits-clause-value : goal.returns-else-from_end-digits-clause-value
returns-else-from_end-digits-clause-value c =
    let digits : c.as_slice-digits.result.now ≡ c.args.self.now = c.as_slice-digits.ensures.value ∙ c.self.view_is in
    let is : IsDigits c.args.self.now = rw c.self.view_is at c.self.invariant in
    let low : pos 0 ≤ℤ c.args.power = grind (arith, ints) in
    let power : c.args.power ≡ pos (nat_abs c.args.power) = pos_abs c.args.power low in
    let whole : to_z w16 (of_z w16 c.args.power) ≡ c.args.power = to_z-of_z w16 c.args.power c.ranges.power in
    let beyond : length c.args.self.now ≤ nat_abs c.args.power = rw (← digits, ← whole) c.if-from_end-digits.false in
    sym (digit_from (number_of c.args.self.now) c.args.power _ power ∙ digit_beyond c.args.self.now _ is beyond)
