use Rattle.cob_decimal.proofs.DecimalLemmas.{keeps_magnitude}
use Rattle.cob_decimal.proofs.laws.wider_keeps_magnitude.Goals as goal

pub returns : goal.returns
returns c = keeps_magnitude
