use Rattle.cob_report_compare.specs.Merged.{file_pair}
use Rattle.cob_report_compare.proofs.TurnLemmas.{measured_heads, pair_tells, whole_record}
use Rattle.cob_report_compare.proofs.turns.tell_pair.Goals as goal

pub compare_pair-comparison-requires-clause-left : goal.compare_pair-comparison-requires-clause-left
compare_pair-comparison-requires-clause-left g c =
    rw (c.head_of-one.ensures.layout, c.head_of-one.ensures.places, c.head_of-one.ensures.bytes) (whole_record c.args.files.layout.now c.args.left_room.now c.args.left.head c.requires.left)

pub compare_pair-comparison-requires-clause-right : goal.compare_pair-comparison-requires-clause-right
compare_pair-comparison-requires-clause-right g c =
    rw (c.head_of-other.ensures.layout, c.head_of-other.ensures.places, c.head_of-other.ensures.bytes) (whole_record c.args.files.layout.now c.args.right_room.now c.args.right.head c.requires.right)

pub returns-in-Ok-clause-tells : goal.returns-in-Ok-clause-tells
returns-in-Ok-clause-tells g c =
    rw c.with.ensures (pair_tells (file_pair c.args.files) c.args.left_room.now c.args.right_room.now c.args.left c.args.right c.args.counts c.compare_pair-comparison.result _ _ (
      measured_heads (file_pair c.args.files) c.args.left_room.now c.args.right_room.now c.args.left.head c.args.right.head c.compare_pair-comparison.result
          (rw (c.head_of-one.ensures.layout, c.head_of-one.ensures.places, c.head_of-one.ensures.bytes, c.head_of-other.ensures.layout, c.head_of-other.ensures.places, c.head_of-other.ensures.bytes) at c.compare_pair-comparison.ensures.is),
      rw (c.told.ensures, c.deref.ensures.value, c.head_of-one.ensures.bytes, c.head_of-other.ensures.bytes) at c.in-Ok.ensures.text,
    ))
