use Rattle.cob_codec.proofs.NaturalLemmas.{text_natural}
use Rattle.cob_codec.proofs.zoned.Zoned.natural.Goals as goal

pub returns : goal.returns
returns c = text_natural c.args.bytes.now c.number_of_text.result c.requires c.number_of_text.ensures
