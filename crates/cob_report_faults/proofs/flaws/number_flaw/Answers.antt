use Rattle.cob_codec.proofs.HalfLemmas.{none_from, some_always}
use Rattle.cob_report_faults.proofs.flaws.number_flaw.Goals as goal

pub returns-in-None-clause-only : goal.returns-in-None-clause-only
returns-in-None-clause-only c = some_always c.flaw.result _ (λ negative digits is. c.in-None.ensures.only negative digits is)

pub returns-in-None-clause-none : goal.returns-in-None-clause-none
returns-in-None-clause-none c = none_from c.flaw.result _ _ c.flaw.ensures.none (λ h. h c.args.reading)
