use Rattle.cob_move.proofs.NoRuleLemmas.{no_broken}
use Rattle.cob_move.proofs.meaning_laws.meant_break_no_rule.Goals as goal

pub returns : goal.returns
returns c = no_broken c.meanings_break_no_rule.ensures
