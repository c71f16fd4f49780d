use Rattle.cob_layout_places.proofs.NeedLaw as law
use Rattle.cob_layout_places.proofs.laws.needs_are_read.Goals as goal

pub returns : goal.returns
returns c = law.needs_are_read
