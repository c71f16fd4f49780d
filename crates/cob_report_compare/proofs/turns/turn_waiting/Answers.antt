use Rattle.std.proofs.Common.{map}
use Rattle.cob_report_show.specs.Elements.{named_item}
use Rattle.cob_report_compare.proofs.TurnLemmas.{keys_decide, left_decides}
use Rattle.cob_report_compare.proofs.turns.turn_waiting.Goals as goal

pub returns-in-Unread : goal.returns-in-Unread
returns-in-Unread c = absurd (c.requires.right c.in-Unread.is)

pub returns-in-Ended : goal.returns-in-Ended
returns-in-Ended c = λ count. rw c.in-Ended.is (left_decides (map named_item c.args.keys.now) c.args.left_room.now c.args.right_room.now count)

pub returns-in-Waits : goal.returns-in-Waits
returns-in-Waits c = λ count. rw c.in-Waits.is (keys_decide (map named_item c.args.keys.now) c.args.left_room.now c.args.right_room.now count c.in-Waits.field-0 c.turn_by.result
    (rw (c.deref.ensures.value, c.deref-in-Waits.ensures.value) at c.turn_by.ensures))
