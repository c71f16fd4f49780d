use Rattle.cob_move.proofs.NoRuleLemmas.{no_rule}
use Rattle.cob_move.proofs.meaning_laws.meanings_break_no_rule.Goals as goal

pub returns : goal.returns
returns c = no_rule c.one_named.ensures c.named_break_no_rule.ensures
