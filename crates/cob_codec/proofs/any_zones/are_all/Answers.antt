use Rattle.cob_codec.proofs.AnyZoneLemmas as lemmas
use Rattle.cob_codec.proofs.any_zones.are_all.Goals as goal

pub returns : goal.returns
returns c = lemmas.are_all c.args.fill c.args.bytes.now c.each_is.result c.each_is.ensures
