use Rattle.cob_source.proofs.FreeLemmas.{not_refused}
use Rattle.cob_source.proofs.laws.free_words_break_no_rule.Goals as goal

pub returns : goal.returns
returns c = λ text ts rule n w b. not_refused text ts rule n w b
