use Rattle.cob_program_explained.proofs.EndLemmas.{ends_behind}
use Rattle.cob_program_explained.proofs.conversions.tell_stop.Goals as goal

pub returns : goal.returns
returns g c = ends_behind _ _ _ c.tell_fault-status.ensures c.tell_known.ensures
