use Rattle.cob_records.proofs.Unique.{frames_are_one}
use Rattle.cob_records.proofs.laws.frames_are_one.Goals as goal

pub returns : goal.returns
returns c = frames_are_one
