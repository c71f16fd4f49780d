use Rattle.cob_report_refused_moves.proofs.Telling.{all_pushed, on_wider, statement_told}
use Rattle.cob_report_refused_moves.proofs.statements.add_statement.Goals as goal

pub returns-in-Some : goal.returns-in-Some
returns-in-Some c =
    let broken = rw c.in-Some.is at c.in_ok-found.ensures in
    on_wider c.push_refusal.result (λ e text names how all. all_pushed text _ _ names _ _ _ e all (statement_told text _ _ names c.in-Some.fault _ c.spot_of-at.result (how c.in-Some.fault broken) c.spot_of-at.ensures)) c.push_refusal.ensures
