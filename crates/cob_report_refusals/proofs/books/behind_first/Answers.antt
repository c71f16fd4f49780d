use Rattle.std.proofs.Common.{refl}
use Rattle.cob_report_refusals.proofs.Walking.{begin_all, begin_is, ok_wider}
use Rattle.cob_report_refusals.proofs.books.behind_first.Goals as goal

pub returns-clause-begins : goal.returns-clause-begins
returns-clause-begins c = ok_wider c.followed.result (λ v e. begin_is c.args.first _ _ v.items e refl) c.followed.ensures

pub returns-clause-each : goal.returns-clause-each
returns-clause-each c = λ role text refused all. ok_wider c.followed.result (λ v e. begin_all role text _ _ v.items e refused (c.parted-from.ensures.entry text all) (c.parted-from.ensures.others text all)) c.followed.ensures
