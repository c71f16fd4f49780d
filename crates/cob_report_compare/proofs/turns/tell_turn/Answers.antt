use Rattle.std.proofs.lemmas.Result.{IfOk-weaker}
use Rattle.cob_report_compare.specs.Merged.{file_pair}
use Rattle.cob_report_compare.proofs.TurnLemmas.{left_tells, right_tells}
use Rattle.cob_report_compare.proofs.turns.tell_turn.Goals as goal

pub returns-in-Left-clause-tells : goal.returns-in-Left-clause-tells
returns-in-Left-clause-tells g c =
    rw c.in-Left.is (IfOk-weaker c.tell_single.result _ _
    (λ now told. left_tells (file_pair c.args.files) c.args.left_room.now c.args.right_room.now c.args.left c.args.right c.args.counts now _ _ told) c.tell_single.ensures.tells)

pub returns-in-Right-clause-tells : goal.returns-in-Right-clause-tells
returns-in-Right-clause-tells g c =
    rw c.in-Right.is (IfOk-weaker c.tell_single-in-Right.result _ _
    (λ now told. right_tells (file_pair c.args.files) c.args.left_room.now c.args.right_room.now c.args.left c.args.right c.args.counts now _ _ told) c.tell_single-in-Right.ensures.tells)
