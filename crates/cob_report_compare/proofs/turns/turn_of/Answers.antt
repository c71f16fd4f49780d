use Rattle.std.proofs.Common.{map}
use Rattle.cob_report_show.specs.Elements.{named_item}
use Rattle.cob_report_compare.proofs.turns.turn_of.Goals as goal

pub returns-in-Unread : goal.returns-in-Unread
returns-in-Unread c = absurd (c.requires.left c.in-Unread.is)

pub returns-in-Ended : goal.returns-in-Ended
returns-in-Ended c = rw c.in-Ended.is (c.turn_at_end.ensures (map named_item c.args.keys.now) c.args.left_room.now c.args.right_room.now)

pub returns-in-Waits : goal.returns-in-Waits
returns-in-Waits c = rw c.in-Waits.is (c.turn_waiting.ensures c.in-Waits.field-0)
