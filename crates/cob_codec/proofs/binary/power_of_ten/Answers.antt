use Rattle.cob_codec.proofs.BinaryLemmas.{power}
use Rattle.cob_codec.proofs.binary.power_of_ten.Goals as goal

pub returns : goal.returns
returns c = power c.args.exponent c.requires
