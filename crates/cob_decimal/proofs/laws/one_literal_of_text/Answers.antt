use Rattle.cob_decimal.proofs.LiteralLemmas.{one_literal}
use Rattle.cob_decimal.proofs.laws.one_literal_of_text.Goals as goal

pub returns : goal.returns
returns c = one_literal
