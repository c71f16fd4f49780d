use Rattle.std.proofs.Common.{◌≤◌, List, arith, subst, sym}
use Rattle.std.specs.List.{AllByRecursion}
use Rattle.cob_move_data.specs.declared.operands.StatementMoves.{StatementMoves}
use Rattle.cob_move_apply.specs.ByRule.{most_receivers}
use Rattle.cob_move_apply.proofs.by_rule.most_of_all.Goals as goal

pub loop-statement-preserved : goal.loop-statement-preserved
loop-statement-preserved c = λ m le h.
    let here : most_receivers c.in-Some.statement.now ≤ m = omega (arith, le, c.greater-most.ensures.other, c.most_receivers.ensures) in
    c.loop-statement.invariant m (omega (arith, le, c.greater-most.ensures.one))
    (subst (λ (ss : List StatementMoves). AllByRecursion (λ s. most_receivers s ≤ m) ss) (sym c.in-Some.ensures.cases.0) (here, h))
