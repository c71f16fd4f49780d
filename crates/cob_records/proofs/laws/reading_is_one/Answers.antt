use Rattle.cob_records.proofs.Unique.{reading_is_one}
use Rattle.cob_records.proofs.laws.reading_is_one.Goals as goal

pub returns : goal.returns
returns c = reading_is_one
