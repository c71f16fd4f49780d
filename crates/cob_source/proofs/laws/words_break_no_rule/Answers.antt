use Rattle.cob_source.proofs.ReadingLemmas.{not_refused}
use Rattle.cob_source.proofs.laws.words_break_no_rule.Goals as goal

pub returns : goal.returns
returns c = not_refused
