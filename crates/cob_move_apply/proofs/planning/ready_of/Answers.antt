use Rattle.std.proofs.Common.{◌≡◌, None}
use Rattle.std.proofs.lemmas.Result.{IfOk-weaker}
use Rattle.cob_codec.specs.declared.reading.Reading.{Reading}
use Rattle.cob_move_apply.specs.Planned.{copied_by}
use Rattle.cob_move_apply.specs.Planning.{single_copy}
use Rattle.cob_move_apply.specs.declared.ready.Ready.{Ready}
use Rattle.cob_move_apply.proofs.planning.ready_of.Goals as goal

pub returns-clause-copies : goal.returns-clause-copies
returns-clause-copies c =
    IfOk-weaker c.within_of.result (λ (ready : Ready). copied_by ready ≡ None) (λ (ready : Ready). (x : Reading) → copied_by ready ≡ single_copy c.args.both.now c.args.given.now c.args.receiver.now x)
    (λ ready none x. let there : c.copy_of.result ≡ single_copy c.args.both.now c.args.given.now c.args.receiver.now x = c.copy_of.ensures.value x in cc) c.within_of.ensures.copies
