use Rattle.cob_convert.specs.Outcomes.{ByConversion, ByLayout}
use Rattle.cob_convert.proofs.outcome.reason_of.Goals as goal

pub returns-in-Misfit : goal.returns-in-Misfit
returns-in-Misfit c = λ conversion input misfit. ByLayout (rw c.in-Misfit.is at misfit)

pub returns-in-Stopped : goal.returns-in-Stopped
returns-in-Stopped c = λ conversion input stops. let (sized, at) = rw c.in-Stopped.is at stops in ByConversion c.in-Stopped.stop sized at c.stop_reason.ensures.reason
