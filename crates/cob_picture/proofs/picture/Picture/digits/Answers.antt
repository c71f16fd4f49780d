use Rattle.std.proofs.Common.{◌∙◌, arith}
use Rattle.cob_picture.proofs.Limits.{bounded, shows_none}
use Rattle.cob_picture.proofs.picture.Picture.digits.Goals as goal

pub returns-clause-most : goal.returns-clause-most
returns-clause-most c = let b = bounded _ _ c.self.invariant.0.picture in omega (arith, b.few_digits, c.self.invariant.0.shows)

pub returns-clause-other : goal.returns-clause-other
returns-clause-other c = rw (← c.self.view_is) (λ e. c.self.invariant.0.shows ∙ (shows_none _ _ e c.self.invariant.0.picture.order).kept)
