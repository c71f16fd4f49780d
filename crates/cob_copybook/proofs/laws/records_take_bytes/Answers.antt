use Rattle.cob_copybook.proofs.Bytes.{records_take_bytes}
use Rattle.cob_copybook.proofs.laws.records_take_bytes.Goals as goal

pub returns : goal.returns
returns c = records_take_bytes c.takes_bytes.ensures
