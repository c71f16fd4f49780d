use Rattle.cob_report_run.proofs.CountLemmas.{none_counted}
use Rattle.cob_report_run.proofs.causes.Causes.new.Goals as goal

pub returns : goal.returns
returns c = none_counted c.in_ok-with_capacity.field-0.items c.in_ok-with_capacity.ensures.items
