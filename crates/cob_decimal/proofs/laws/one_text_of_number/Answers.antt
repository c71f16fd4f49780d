use Rattle.cob_decimal.proofs.NumberTextLemmas.{one_text}
use Rattle.cob_decimal.proofs.laws.one_text_of_number.Goals as goal

pub returns : goal.returns
returns c = one_text
