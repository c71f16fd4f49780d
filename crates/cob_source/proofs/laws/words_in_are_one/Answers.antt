use Rattle.cob_source.proofs.FormatLemmas.{words_in_once}
use Rattle.cob_source.proofs.laws.words_in_are_one.Goals as goal

pub returns : goal.returns
returns c = λ format text a b x y. words_in_once format text a b x y
