use Rattle.std.proofs.Common.{sym, subst}
use Rattle.cob_program_runtime.specs.Limits.{SaysLimit}
use Rattle.cob_program_runtime.proofs.limit.size_limit.Goals as goal

pub returns-in-Some-clause-only : goal.returns-in-Some-clause-only
returns-in-Some-clause-only c size (behind, stands, says) =
    c.size_said.ensures.only size (subst (λ words. SaysLimit words size) (sym (c.in-Some.ensures.only behind stands)) says)

pub returns-in-None-clause-only : goal.returns-in-None-clause-only
returns-in-None-clause-only c size (behind, stands, says) = absurd (c.in-None.ensures.only behind stands)
