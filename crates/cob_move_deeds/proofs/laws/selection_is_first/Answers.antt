use Rattle.cob_move_deeds.proofs.ChoiceLemmas.{selection_back, selection_there}
use Rattle.cob_move_deeds.proofs.laws.selection_is_first.Goals as goal

pub returns : goal.returns
returns c = λ r ws other input before end. (selection_there r ws other input before end, selection_back r ws other input before end)
