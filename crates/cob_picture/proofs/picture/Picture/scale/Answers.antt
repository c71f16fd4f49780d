use Rattle.std.proofs.Common.{arith}
use Rattle.std.proofs.lemmas.Int.{ints}
use Rattle.cob_picture.proofs.Limits.{bounded, scale_none}
use Rattle.cob_picture.proofs.picture.Picture.scale.Goals as goal

pub returns-clause-least : goal.returns-clause-least
returns-clause-least c = let b = bounded _ _ c.self.invariant.0.picture in omega (arith, ints, b.missing, b.fraction, c.self.invariant.0.counts_in)

pub returns-clause-most : goal.returns-clause-most
returns-clause-most c = let b = bounded _ _ c.self.invariant.0.picture in omega (arith, ints, b.missing, b.fraction, c.self.invariant.0.counts_in)

pub returns-clause-other : goal.returns-clause-other
returns-clause-other c = rw (← c.self.view_is) (λ e. let b = scale_none _ _ e c.self.invariant.0.picture in omega (arith, ints, b.0, b.1, c.self.invariant.0.counts_in))
