use Rattle.cob_report_compare.proofs.TurnLemmas.{none_decides, right_decides}
use Rattle.cob_report_compare.proofs.turns.turn_at_end.Goals as goal

pub returns-in-Unread : goal.returns-in-Unread
returns-in-Unread c = absurd (c.requires c.in-Unread.is)

pub returns-in-Ended : goal.returns-in-Ended
returns-in-Ended c = λ keys one other. rw c.in-Ended.is (none_decides keys one other)

pub returns-in-Waits : goal.returns-in-Waits
returns-in-Waits c = λ keys one other. rw c.in-Waits.is (right_decides keys one other c.in-Waits.field-0)
