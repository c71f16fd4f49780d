use Rattle.std.proofs.Common.{arith}
use Rattle.cob_picture.proofs.Limits.{bounded}
use Rattle.cob_picture.proofs.picture.Picture.size.Goals as goal

pub returns-clause-some : goal.returns-clause-some
returns-clause-some c = let b = bounded _ _ c.self.invariant.0.picture in omega (arith, b.some, c.self.invariant.0.takes)
