use Rattle.cob_decimal.proofs.NumberTextLemmas.{number_of-append}
use Rattle.cob_decimal.proofs.laws.digits_joined.Goals as goal

pub returns : goal.returns
returns c = number_of-append
