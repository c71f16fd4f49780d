use Rattle.std.proofs.Common.{[], refl}
use Rattle.cob_report_show.proofs.SentLemmas.{append_none, none_sent}
use Rattle.cob_report_show.proofs.values.make_room.Goals as goal

pub returns-then-remaining_capacity-ge6-clause-lines : goal.returns-then-remaining_capacity-ge6-clause-lines
returns-then-remaining_capacity-ge6-clause-lines g c = ([], (refl, none_sent _), append_none _)
