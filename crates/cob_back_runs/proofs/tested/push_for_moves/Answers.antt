use Rattle.std.proofs.Common.{ℕ, ◌++◌, ◌∙◌, List, ap, replicate, sym}
use Rattle.cob_move_data.specs.declared.operands.StatementMoves.{StatementMoves}
use Rattle.cob_back_runs.specs.Tested.{move_count, moves_counted}
use Rattle.cob_back_runs.proofs.TestedLemmas.{marks_more}
use Rattle.cob_back_runs.proofs.tested.push_for_moves.Goals as goal

pub loop-statement-preserved : goal.loop-statement-preserved
loop-statement-preserved c =
    let so = c.loop-statement.marks.items in
    marks_more so c.push_marks.new.marks.items (c.args.marks.now.items ++ replicate (moves_counted c.args.statements.now) c.args.mark) (move_count c.in-Some.statement.now) (moves_counted c.in-Some.more.now) c.args.mark
    (c.in_ok-push_marks.ensures ∙ ap (λ (n : ℕ). so ++ replicate n c.args.mark) c.moves_made.ensures)
    (ap (λ (ss : List StatementMoves). so ++ replicate (moves_counted ss) c.args.mark) (sym c.in-Some.ensures.cases.0) ∙ c.loop-statement.invariant)
