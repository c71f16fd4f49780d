use Rattle.std.proofs.Common.{arith}
use Rattle.cob_report_show.proofs.SentLemmas.{put_few, put_sends}
use Rattle.cob_report_show.proofs.text.put.Goals as goal

pub returns-clause-lines : goal.returns-clause-lines
returns-clause-lines g c =
    put_sends c.args.text.now c.put_record-answer.result _ _ c.args.sent.now _ c.put_record-answer.ensures.frame (rw c.taken_by.ensures at c.saturating_add.ensures)

pub returns-clause-few : goal.returns-clause-few
returns-clause-few g c =
    let few = put_few c.args.text.now c.put_record-answer.result _ _ c.put_record-answer.ensures.frame in
    omega (arith, few, c.taken_by.ensures, c.saturating_add.ensures)
