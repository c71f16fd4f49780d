use Rattle.cob_move_choices.proofs.NoRuleLemmas.{no_test}
use Rattle.cob_move_choices.proofs.laws.branch_tests_break_no_rule.Goals as goal

pub returns : goal.returns
returns c = no_test c.conditions_break_no_rule.ensures c.one_named.ensures c.named_break_no_rule.ensures
