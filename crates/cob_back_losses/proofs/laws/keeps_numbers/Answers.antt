use Rattle.cob_back_losses.proofs.NumberLemmas as numbers
use Rattle.cob_back_losses.proofs.laws.keeps_numbers.Goals as goal

pub returns : goal.returns
returns c = numbers.keeps_numbers
