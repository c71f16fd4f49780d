use Rattle.cob_back_moves.proofs.ReturnLaw.{items_return}
use Rattle.cob_back_moves.proofs.laws.items_return.Goals as goal

pub returns : goal.returns
returns c = items_return c.stored_numbers_read_back.ensures c.items_hold_numbers.ensures c.wider_keeps_magnitude.ensures c.below_power_of_ten.ensures
