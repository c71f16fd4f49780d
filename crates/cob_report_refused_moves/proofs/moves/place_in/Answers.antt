use Rattle.std.proofs.Common.{sym, subst}
use Rattle.std.specs.Prelude.{IfSome}
use Rattle.cob_move_statements.specs.declared.fault.MoveFault.{MoveFault}
use Rattle.cob_report_refused_moves.specs.Statements.{IsRefusedThere}
use Rattle.cob_report_refused_moves.proofs.moves.place_in.Goals as goal

pub returns-then-is_same : goal.returns-then-is_same
returns-then-is_same c = λ text input output names h.
    subst (λ (f : MoveFault). IfSome c.args.refusal.now.at (IsRefusedThere f text input output)) (sym (c.is_same.ensures c.if-is_same.true)) h.1
