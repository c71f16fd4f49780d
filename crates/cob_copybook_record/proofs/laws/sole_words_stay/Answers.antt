use Rattle.cob_copybook_record.proofs.StretchLemmas.{sole_words_stay}
use Rattle.cob_copybook_record.proofs.laws.sole_words_stay.Goals as goal

pub returns : goal.returns
returns c = λ ws none. sole_words_stay ws none
