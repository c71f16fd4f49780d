use Rattle.cob_decimal.proofs.NumberTextLemmas.{text_tells}
use Rattle.cob_decimal.proofs.laws.text_tells_number.Goals as goal

pub returns : goal.returns
returns c = text_tells
