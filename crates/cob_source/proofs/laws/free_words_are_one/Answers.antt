use Rattle.cob_source.proofs.FreeLemmas.{free_words_once}
use Rattle.cob_source.proofs.laws.free_words_are_one.Goals as goal

pub returns : goal.returns
returns c = λ text a b x y. free_words_once text a b x y
