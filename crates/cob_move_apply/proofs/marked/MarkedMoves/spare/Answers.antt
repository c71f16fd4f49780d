use Rattle.std.proofs.Common.{List, inl, subst, sym}
use Rattle.cob_move_data.specs.declared.operands.StatementMoves.{StatementMoves}
use Rattle.cob_move_data.specs.Moves.{AreMoves, Move, moves_by}
use Rattle.cob_move_apply.specs.Marked.{mark_at}
use Rattle.cob_move_apply.specs.Spared.{AllBeginFrom}
use Rattle.cob_move_apply.proofs.SpareLemmas.{are_between, spared_out}
use Rattle.cob_move_apply.proofs.marked.MarkedMoves.spare.Goals as goal

pub returns-in-In : goal.returns-in-In
returns-in-In c = λ yes r same prepared placed. inl c.in-In.is

pub returns-in-Some : goal.returns-in-Some
returns-in-Some c = λ yes r same prepared placed.
    let m = c.args.self.now in
    let x = m.moves.reading in
    let (n, noted, none, is) = c.in-Some.ensures in
    let are = subst (λ (ss : List StatementMoves). AreMoves r (moves_by x r ss)) (sym c.statements_between.ensures.value)
    (are_between x r (mark_at m.marks.items c.args.from).statement (mark_at m.marks.items c.args.to).statement m.moves.statements.items (prepared.moves x)) in
    spared_out r c.args.entry.now n c.in-Some.end _ c.in-Out.is noted none is placed
    (subst (λ (ms : List Move). AllBeginFrom r.output c.in-Some.end ms) (sym (c.statements_between.ensures.moves r)) (c.all_begin_from.ensures yes r x same are))
