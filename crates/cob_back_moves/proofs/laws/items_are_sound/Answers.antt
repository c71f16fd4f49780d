use Rattle.cob_back_moves.proofs.SoundLaw.{items_are_sound}
use Rattle.cob_back_moves.proofs.laws.items_are_sound.Goals as goal

pub returns : goal.returns
returns c = items_are_sound c.signs_are_shown.ensures c.records_are_sound.ensures
