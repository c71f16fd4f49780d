use Rattle.cob_move_deeds.proofs.ChoiceLemmas.{choice_back, choice_there}
use Rattle.cob_move_deeds.proofs.laws.choice_is_if.Goals as goal

pub returns : goal.returns
returns c = λ r condition holding lacking input before end.
    (choice_there r condition holding lacking input before end, choice_back r condition holding lacking input before end)
