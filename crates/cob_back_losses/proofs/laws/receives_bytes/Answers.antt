use Rattle.cob_back_losses.proofs.ReceivedLemmas as received
use Rattle.cob_back_losses.proofs.laws.receives_bytes.Goals as goal

pub returns : goal.returns
returns c = received.receives_bytes
