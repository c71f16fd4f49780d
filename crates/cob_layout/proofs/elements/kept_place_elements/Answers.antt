use Rattle.cob_layout.proofs.ElementLemmas.{kept_places}
use Rattle.cob_layout.proofs.elements.kept_place_elements.Goals as goal

pub returns : goal.returns
returns c = kept_places c.kept_give_needed.ensures.needed c.needs_are_read.ensures
