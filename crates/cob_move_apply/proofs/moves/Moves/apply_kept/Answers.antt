use Rattle.std.proofs.Common.{◌≤◌, ◌+◌, ◌*◌, ℕ, List, length, subst, sym}
use Rattle.cob_move_data.specs.declared.operands.StatementMoves.{StatementMoves}
use Rattle.cob_move_data.specs.Moves.{AreMoves, Records, moves_by}
use Rattle.cob_move_apply.specs.Steps.{StandFor, support_of}
use Rattle.cob_layout_places.specs.Counts.{tables_of}
use Rattle.cob_move_apply.specs.Met.{HaveMet}
use Rattle.cob_move_apply.proofs.moves.Moves.apply_kept.Goals as goal

pub apply_in-requires-clause-steps : goal.apply_in-requires-clause-steps
apply_in-requires-clause-steps c =
    let r : Records = record { input = c.args.input_layout.now; output = c.args.output_layout.now } in
    let x = c.args.self.now.reading in
    subst (λ (ss : List StatementMoves). StandFor x r ss c.args.self.now.plan.steps.items (support_of c.args.self.now.plan) (moves_by x r ss)) (sym c.as_slice-statements.ensures.value)
    ((c.requires.prepared x).0)

pub apply_in-requires-clause-moves : goal.apply_in-requires-clause-moves
apply_in-requires-clause-moves c =
    let r : Records = record { input = c.args.input_layout.now; output = c.args.output_layout.now } in
    let x = c.args.self.now.reading in
    let (stand, count, moves) = c.requires.prepared x in
    subst (λ (ss : List StatementMoves). AreMoves r (moves_by x r ss)) (sym c.as_slice-statements.ensures.value) moves

pub returns-clause-reads : goal.returns-clause-reads
returns-clause-reads c =
    let r : Records = record { input = c.args.input_layout.now; output = c.args.output_layout.now } in
    let x = c.args.self.now.reading in
    subst (λ (ss : List StatementMoves). (met : ℕ) × HaveMet r (moves_by x r ss) c.args.input.now c.args.output.now met × (c.apply_in.new.space.output.reads ≤ length (tables_of r.output) * (1 + met))) c.as_slice-statements.ensures.value
    c.apply_in.ensures.reads
