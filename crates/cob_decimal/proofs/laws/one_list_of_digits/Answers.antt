use Rattle.cob_decimal.proofs.DecimalLemmas.{one_list}
use Rattle.cob_decimal.proofs.laws.one_list_of_digits.Goals as goal

pub returns : goal.returns
returns c = one_list
