use Rattle.cob_edit.proofs.EditedLemmas.{region_of_picture}
use Rattle.cob_edit.proofs.RegionLemmas.{one_region}
use Rattle.cob_edit.proofs.laws.regions_are_of_runs.Goals as goal

pub returns-clause-region : goal.returns-clause-region
returns-clause-region c = region_of_picture

pub returns-clause-one : goal.returns-clause-one
returns-clause-one c = one_region
