use Rattle.cob_records.proofs.Unique.{frames_read_back}
use Rattle.cob_records.proofs.laws.frames_read_back.Goals as goal

pub returns : goal.returns
returns c = frames_read_back
