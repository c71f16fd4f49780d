use Rattle.std.proofs.Common.{refl}
use Rattle.cob_report_refusals.proofs.Walking.{ok_wider}
use Rattle.cob_report_refused_moves.proofs.Telling.{begin_all, begin_is}
use Rattle.cob_report_refused_moves.proofs.moves.behind_first.Goals as goal

pub returns-clause-begins : goal.returns-clause-begins
returns-clause-begins c = ok_wider c.followed.result (λ v e. begin_is c.args.first (record { fault = c.args.first; at = c.parted-at.result.0 }) c.parted-at.result.1.now c.parted-at.result.2.now v.items e refl) c.followed.ensures

pub returns-clause-each : goal.returns-clause-each
returns-clause-each c = λ text input output names refused all.
    let parts = c.parted-at.ensures text input output names all in
    ok_wider c.followed.result (λ v e. begin_all text input output names _ _ _ v.items e refused parts.0 parts.1 parts.2) c.followed.ensures
