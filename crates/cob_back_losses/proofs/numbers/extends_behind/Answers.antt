use Rattle.std.proofs.Common.{refl, arith}
use Rattle.std.proofs.lemmas.Int.{ints}
use Rattle.cob_back_losses.proofs.DigitLemmas.{longer_behind, none_behind, not_so, so}
use Rattle.cob_back_losses.proofs.numbers.extends_behind.Goals as goal

pub returns-then-from-last : goal.returns-then-from-last
returns-then-from-last c = not_so _ _ refl (none_behind c.args.extent c.args.picture.now (λ some.
    let a = c.from.ensures in let v = c.last_power-last.ensures.value in let t = c.if-from-last.true in omega (arith, ints)))

pub returns : goal.returns
returns c = so _ _ refl (longer_behind c.args.extent c.args.picture.now (omega (arith, c.if-extent-eq0.false)) (
    let a = c.from.ensures in let v = c.last_power-last.ensures.value in let t = c.if-from-last.false in omega (arith, ints)))
