use Rattle.cob_report_run.proofs.CountLemmas.{more_of_first, more_of_rest}
use Rattle.cob_report_run.proofs.causes.+count_among.Goals as goal

pub returns-then-eq-clause-counted : goal.returns-then-eq-clause-counted
returns-then-eq-clause-counted t c = λ found below.
    more_of_first c.in-Some.first.now _ c.in-Some.rest.now c.args.counts.now c.in-Some.ensures.cases.0 c.saturating_add-first.ensures below

pub returns-clause-counted : goal.returns-clause-counted
returns-clause-counted t c = λ found below.
    more_of_rest c.in-Some.first.now c.in-Some.rest.now c.args.counts.now c.count_among.new.counts c.in-Some.ensures.cases.0 (c.count_among.ensures.counted found) below
