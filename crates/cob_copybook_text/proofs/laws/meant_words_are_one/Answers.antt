use Rattle.cob_copybook_text.proofs.MeantLemmas.{meant_words_are_one}
use Rattle.cob_copybook_text.proofs.laws.meant_words_are_one.Goals as goal

pub returns : goal.returns
returns c = meant_words_are_one c.one_expansion.ensures
