use Rattle.cob_source.proofs.ReadingLemmas.{words_once}
use Rattle.cob_source.proofs.laws.words_are_one.Goals as goal

pub returns : goal.returns
returns c = λ text a b x y. words_once _ text a b x y
