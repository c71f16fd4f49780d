use Rattle.cob_source.proofs.FitLemmas.{words_fit}
use Rattle.cob_source.proofs.laws.lines_of_words_fit.Goals as goal

pub returns : goal.returns
returns c = words_fit
