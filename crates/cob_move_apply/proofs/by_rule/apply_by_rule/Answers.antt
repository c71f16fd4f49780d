use Rattle.std.proofs.Common.{◌≡◌, ◌∙◌, ◌<◌, List, arith, ap, length, refl, subst}
use Rattle.std.specs.List.{AllByRecursion}
use Rattle.std.proofs.lemmas.Result.{err_from_is_err_and}
use Rattle.cob_move_data.specs.declared.operands.StatementMoves.{StatementMoves}
use Rattle.cob_move_data.specs.Moves.{AreMoves, IsMove, Records, moves_by, statement_moves_by}
use Rattle.cob_move_apply.specs.ByRule.{most_receivers}
use Rattle.cob_move_apply.specs.Surveyed.{records}
use Rattle.cob_move_apply.proofs.ByRuleLemmas.{all_behind, all_front, all_spends, empty_of, gone_all, gone_next, gone_none, gone_stopped, stop_spends}
use Rattle.cob_move_apply.proofs.by_rule.apply_by_rule.Goals as goal

pub loop-statement-init : goal.loop-statement-init
loop-statement-init c =
    let x = c.args.layouts.now.reading in
    let r : Records = records c.args.layouts.now in
    record {
      gone = gone_none r (moves_by x r c.args.statements.now) c.args.input.now c.args.output.now c.args.space.now.output;
      moves = c.requires.moves;
      room = c.requires.unnoted.room;
      output = refl;
      space = c.requires.space;
    }

pub apply_statement-requires-clause-moves : goal.apply_statement-requires-clause-moves
apply_statement-requires-clause-moves c =
    let x = c.args.layouts.now.reading in
    let r : Records = records c.args.layouts.now in
    all_front (IsMove r) (statement_moves_by x r c.in-Some.statement.now) (moves_by x r c.in-Some.behind.now)
    (subst (λ (ss : List StatementMoves). AreMoves r (moves_by x r ss)) c.in-Some.ensures.cases.0 c.loop-statement.invariant.moves)

pub apply_statement-requires-clause-room : goal.apply_statement-requires-clause-room
apply_statement-requires-clause-room c =
    (subst (λ (ss : List StatementMoves). AllByRecursion (λ s. most_receivers s < length c.args.unnoted.now) ss) c.in-Some.ensures.cases.0 c.loop-statement.invariant.room).0

pub returns-in_err-apply_statement-clause-applied : goal.returns-in_err-apply_statement-clause-applied
returns-in_err-apply_statement-clause-applied c =
    let x = c.args.layouts.now.reading in
    let r : Records = records c.args.layouts.now in
    let p = err_from_is_err_and c.from_residual.result c.from_residual.ensures.1 in
    rw (p.1, p.2) (gone_stopped r (moves_by x r c.args.statements.now) (statement_moves_by x r c.in-Some.statement.now) (moves_by x r c.in-Some.behind.now) (moves_by x r c.loop-statement.left.now)
    c.args.input.now c.args.output.now c.loop-statement.output c.apply_statement.new.output c.in_err-apply_statement.field-0.0 c.args.space.now.output c.loop-statement.space.output
    (ap (moves_by x r) c.in-Some.ensures.cases.0) c.loop-statement.invariant.gone c.in_err-apply_statement.ensures.applied)

pub returns-in_err-apply_statement-clause-spends : goal.returns-in_err-apply_statement-clause-spends
returns-in_err-apply_statement-clause-spends c =
    let x = c.args.layouts.now.reading in
    let r : Records = records c.args.layouts.now in
    let p = err_from_is_err_and c.from_residual.result c.from_residual.ensures.1 in
    rw p.1 (stop_spends r (moves_by x r c.args.statements.now) (statement_moves_by x r c.in-Some.statement.now) (moves_by x r c.in-Some.behind.now) (moves_by x r c.loop-statement.left.now)
    c.args.input.now c.args.output.now c.loop-statement.output c.apply_statement.new.output c.in_err-apply_statement.field-0.0 c.args.space.now.output c.loop-statement.space.output c.apply_statement.new.space.output
    (ap (moves_by x r) c.in-Some.ensures.cases.0) c.loop-statement.invariant.gone c.in_err-apply_statement.ensures.spends)

pub loop-statement-preserved : goal.loop-statement-preserved
loop-statement-preserved c =
    let x = c.args.layouts.now.reading in
    let r : Records = records c.args.layouts.now in
    record {
      gone = gone_next r (moves_by x r c.args.statements.now) (statement_moves_by x r c.in-Some.statement.now) (moves_by x r c.in-Some.behind.now) (moves_by x r c.loop-statement.left.now)
          c.args.input.now c.args.output.now c.loop-statement.output c.apply_statement.new.output c.args.space.now.output c.loop-statement.space.output c.apply_statement.new.space.output
          (ap (moves_by x r) c.in-Some.ensures.cases.0) c.loop-statement.invariant.gone c.in_ok-apply_statement.ensures.applied c.in_ok-apply_statement.ensures.spends;
      moves = all_behind (IsMove r) (statement_moves_by x r c.in-Some.statement.now) (moves_by x r c.in-Some.behind.now)
          (subst (λ (ss : List StatementMoves). AreMoves r (moves_by x r ss)) c.in-Some.ensures.cases.0 c.loop-statement.invariant.moves);
      room = (subst (λ (ss : List StatementMoves). AllByRecursion (λ s. most_receivers s < length c.args.unnoted.now) ss) c.in-Some.ensures.cases.0 c.loop-statement.invariant.room).1;
      output = c.apply_statement.auto.output ∙ c.loop-statement.invariant.output;
      space = c.apply_statement.ensures.space;
    }

pub returns-clause-applied : goal.returns-clause-applied
returns-clause-applied c =
    let x = c.args.layouts.now.reading in
    let r : Records = records c.args.layouts.now in
    gone_all r (moves_by x r c.args.statements.now) (moves_by x r c.loop-statement.left.now) c.args.input.now c.args.output.now c.loop-statement.output c.args.space.now.output
    c.loop-statement.space.output (ap (moves_by x r) (empty_of c.loop-statement.left.now (omega (arith, c.in_default.ensures.cases)))) c.loop-statement.invariant.gone

pub returns-clause-spends : goal.returns-clause-spends
returns-clause-spends c =
    let x = c.args.layouts.now.reading in
    let r : Records = records c.args.layouts.now in
    all_spends r (moves_by x r c.args.statements.now) (moves_by x r c.loop-statement.left.now) c.args.input.now c.args.output.now c.loop-statement.output c.args.space.now.output
    c.loop-statement.space.output (ap (moves_by x r) (empty_of c.loop-statement.left.now (omega (arith, c.in_default.ensures.cases)))) c.loop-statement.invariant.gone
