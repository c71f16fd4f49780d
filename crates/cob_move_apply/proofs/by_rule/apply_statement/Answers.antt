use Rattle.std.proofs.Common.{[], ◌∷◌, List, ap, subst, sym}
use Rattle.cob_move_data.specs.declared.operands.StatementMoves.{StatementMoves}
use Rattle.cob_move_data.specs.Moves.{AreMoves, Move, Records, move_by, statement_moves_by}
use Rattle.cob_move_apply.specs.Spent.{MovesSpend}
use Rattle.cob_move_apply.specs.Surveyed.{records}
use Rattle.cob_move_apply.proofs.StepLemmas.{made_one}
use Rattle.cob_move_apply.proofs.by_rule.apply_statement.Goals as goal

pub apply_single-requires-clause-moved : goal.apply_single-requires-clause-moved
apply_single-requires-clause-moved c =
    let x = c.args.layouts.now.reading in
    let r : Records = records c.args.layouts.now in
    (subst (λ (s : StatementMoves). AreMoves r (statement_moves_by x r s)) c.in-Single.is c.requires.moves).0

pub returns-in-Single-clause-applied : goal.returns-in-Single-clause-applied
returns-in-Single-clause-applied c =
    let x = c.args.layouts.now.reading in
    let r : Records = records c.args.layouts.now in
    made_one r (statement_moves_by x r c.args.statement.now) (move_by x r c.in-Single.single) c.args.input.now c.args.output.now _ (ap (statement_moves_by x r) c.in-Single.is) c.apply_single.ensures.moved

pub returns-in-Single-clause-spends : goal.returns-in-Single-clause-spends
returns-in-Single-clause-spends c =
    let x = c.args.layouts.now.reading in
    let r : Records = records c.args.layouts.now in
    subst (λ (ms : List Move). MovesSpend r ms c.args.input.now c.args.output.now c.apply_single.result c.apply_single.new.output c.args.space.now.output c.apply_single.new.space.output)
    (sym (ap (statement_moves_by x r) c.in-Single.is)) c.apply_single.ensures.spends
