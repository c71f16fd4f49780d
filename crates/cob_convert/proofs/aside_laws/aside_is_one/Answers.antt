use Rattle.cob_convert.proofs.AsideOne.{aside_is_one}
use Rattle.cob_convert.proofs.aside_laws.aside_is_one.Goals as goal

pub returns : goal.returns
returns c = aside_is_one c.next_is_one.ensures c.conversions_are_decided.ensures
