use Rattle.cob_layout.proofs.NeedLemmas as law
use Rattle.cob_layout.proofs.laws.all_give_needed.Goals as goal

pub returns : goal.returns
returns c = law.all_give_needed c.records_are_sound.ensures c.needs_are_read.ensures c.one_place.ensures
