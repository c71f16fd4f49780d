use Rattle.cob_picture.proofs.Limits.{takes_bytes}
use Rattle.cob_picture.proofs.laws.takes_bytes.Goals as goal

pub returns : goal.returns
returns c = takes_bytes
