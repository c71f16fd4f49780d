use Rattle.cob_convert.proofs.One.{conversion_is_one}
use Rattle.cob_convert.proofs.laws.conversion_is_one.Goals as goal

pub returns : goal.returns
returns c = conversion_is_one c.next_is_one.ensures c.conversions_are_decided.ensures
