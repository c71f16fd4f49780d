use Rattle.cob_move_choices.proofs.NoRuleLemmas.{no_subject}
use Rattle.cob_move_choices.proofs.laws.subjects_break_no_rule.Goals as goal

pub returns : goal.returns
returns c = no_subject c.named_break_no_rule.ensures
