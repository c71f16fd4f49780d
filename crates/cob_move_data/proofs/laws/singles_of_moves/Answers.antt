use Rattle.cob_move_data.proofs.SingleLemmas.{of_placed}
use Rattle.cob_move_data.proofs.laws.singles_of_moves.Goals as goal

pub returns : goal.returns
returns c = λ statements. record { are = λ reading records. of_placed reading records 0 statements }
