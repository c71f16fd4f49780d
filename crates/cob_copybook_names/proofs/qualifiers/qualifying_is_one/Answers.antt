use Rattle.cob_copybook_names.proofs.Qualifying.{qualifying}
use Rattle.cob_copybook_names.proofs.qualifiers.qualifying_is_one.Goals as goal

pub returns : goal.returns
returns c = qualifying
