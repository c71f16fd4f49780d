use Rattle.cob_move_data.proofs.SingleLemmas.{of_sent}
use Rattle.cob_move_data.proofs.laws.senders_of_moves.Goals as goal

pub returns : goal.returns
returns c = λ statements. record { are = λ reading records. of_sent reading records statements }
