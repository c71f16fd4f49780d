use Rattle.cob_layout.proofs.AreaLemmas.{begin_with_area}
use Rattle.cob_layout.proofs.laws.redefinitions_begin_with_area.Goals as goal

pub returns : goal.returns
returns c = begin_with_area c.records_are_sound.ensures
