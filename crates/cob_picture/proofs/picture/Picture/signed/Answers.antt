use Rattle.std.proofs.Common.{◌∙◌}
use Rattle.cob_picture.proofs.Limits.{shows_none}
use Rattle.cob_picture.proofs.picture.Picture.signed.Goals as goal

pub returns-clause-other : goal.returns-clause-other
returns-clause-other c = rw (← c.self.view_is) (λ e. c.self.invariant.0.keeps_sign ∙ (shows_none _ _ e c.self.invariant.0.picture.order).sign)
