use Rattle.cob_decimal.proofs.DecimalLemmas.{number_of-lt}
use Rattle.cob_decimal.proofs.laws.below_power_of_ten.Goals as goal

pub returns : goal.returns
returns c = number_of-lt
