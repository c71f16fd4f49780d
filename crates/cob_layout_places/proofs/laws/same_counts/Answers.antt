use Rattle.cob_layout_places.proofs.AgreeLaw as law
use Rattle.cob_layout_places.proofs.laws.same_counts.Goals as goal

pub returns : goal.returns
returns c = law.same_counts
