use Rattle.cob_move_tests.proofs.NoRuleLemmas.{no_rule}
use Rattle.cob_move_tests.proofs.laws.conditions_break_no_rule.Goals as goal

pub returns : goal.returns
returns c = no_rule c.one_written_condition.ensures c.one_named.ensures c.named_break_no_rule.ensures c.one_valued.ensures c.valued_break_no_rule.ensures
