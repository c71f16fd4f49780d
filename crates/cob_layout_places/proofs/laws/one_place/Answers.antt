use Rattle.cob_layout_places.proofs.PlaceLaw as law
use Rattle.cob_layout_places.proofs.laws.one_place.Goals as goal

pub returns : goal.returns
returns c = law.one_place
