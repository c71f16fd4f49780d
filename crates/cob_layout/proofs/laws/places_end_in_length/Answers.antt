use Rattle.cob_layout.proofs.EndLemmas.{end_in_length}
use Rattle.cob_layout.proofs.laws.places_end_in_length.Goals as goal

pub returns : goal.returns
returns c = end_in_length c.records_are_sound.ensures
