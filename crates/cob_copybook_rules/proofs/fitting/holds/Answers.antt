use Rattle.std.proofs.Common.{◌≡◌, ◌≤ℤ◌, ◌*◌, ◌^◌, ◌<◌, pos, ℕ, arith, subst}
use Rattle.std.proofs.lemmas.Int.{ints, to_z-of_z}
use lib.IntN.{nat_abs}
use Rattle.cob_decimal.specs.Decimal.{number_of}
use Rattle.cob_copybook_rules.proofs.FittingLemmas.{finer_held}
use Rattle.cob_copybook_rules.proofs.fitting.holds.Goals as goal

pub returns-else-shift-lt0-clause-yes : goal.returns-else-shift-lt0-clause-yes
returns-else-shift-lt0-clause-yes c = λ h.
    let up : pos 0 ≤ℤ c.args.shift = omega (arith, ints) in
    let same : c.from-places.result ≡ nat_abs c.args.shift = grind (arith, to_z-of_z) in
    let few = subst (λ (a : ℕ). a * 10 ^ c.from-places.result < 10 ^ c.args.room) c.without_zeros-digits.ensures.value (c.holds_finer.ensures.0 h) in
    finer_held c.args.shift (number_of c.args.digits.now) c.from-places.result c.args.room up same few
