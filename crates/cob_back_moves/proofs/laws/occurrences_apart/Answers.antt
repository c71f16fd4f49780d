use Rattle.cob_back_moves.proofs.ApartLaw.{occurrences_apart}
use Rattle.cob_back_moves.proofs.laws.occurrences_apart.Goals as goal

pub returns : goal.returns
returns c = occurrences_apart c.records_are_sound.ensures
