use Rattle.std.proofs.Common.{None, Ok, Err, ap, refl}
use Rattle.cob_program_list.proofs.records.shown_chosen.Goals as goal

pub returns-in-Ok : goal.returns-in-Ok
returns-in-Ok g c = record { shows = λ text. (Ok c.in-Ok.done, None, refl, c.in-Ok.ensures.shows text) }

pub returns : goal.returns
returns g c = record { shows = λ text. (Err c.in-Err.fault, c.stopped.result, ap Err c.caused_by.ensures, c.in-Err.ensures.shows text) }
