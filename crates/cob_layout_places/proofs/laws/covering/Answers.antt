use Rattle.cob_layout_places.proofs.CoverLaw as law
use Rattle.cob_layout_places.proofs.laws.covering.Goals as goal

pub returns-clause-covered : goal.returns-clause-covered
returns-clause-covered c = law.covering

pub returns-clause-counted : goal.returns-clause-counted
returns-clause-counted c = law.counted

pub returns-clause-greatest : goal.returns-clause-greatest
returns-clause-greatest c = law.greatest
