use Rattle.std.proofs.Common.{List, refl, subst, sym}
use Rattle.cob_move_data.specs.declared.operands.StatementMoves.{StatementMoves}
use Rattle.cob_move_data.specs.Moves.{AreMoves, Move, Records, moves_by}
use Rattle.cob_move_apply.specs.Applied.{Applied, ending}
use Rattle.cob_move_apply.specs.Spent.{MovesSpend}
use Rattle.cob_move_apply.specs.Prepared.{moves_of}
use Rattle.cob_move_apply.specs.Steps.{StandFor, support_of}
use Rattle.cob_move_apply.proofs.ByRuleLemmas.{unnoted_all}
use Rattle.cob_move_apply.proofs.MarkLemmas.{stand_whole}
use Rattle.cob_move_apply.proofs.ReadsLemmas.{seen_in, told_of, told_reads, workspace_of}
use Rattle.cob_move_apply.proofs.marked.MarkedMoves.apply_all.Goals as goal

pub apply_chosen-requires-clause-steps : goal.apply_chosen-requires-clause-steps
apply_chosen-requires-clause-steps c =
    let r : Records = record { input = c.args.input_layout.now; output = c.args.output_layout.now } in
    let m = c.args.self.now in
    subst (λ (ss : List StatementMoves). StandFor m.moves.reading r c.as_slice-statements.result.now c.as_slice-steps.result.now (support_of m.moves.plan) (moves_by m.moves.reading r ss))
    (sym c.as_slice-statements.ensures.value)
    (stand_whole m.moves.reading r m.moves.statements.items c.as_slice-statements.result.now (support_of m.moves.plan) m.moves.plan.steps.items c.as_slice-steps.result.now m.marks.items
    c.as_slice-statements.ensures.value c.as_slice-steps.ensures.value c.requires.prepared.parted c.requires.prepared.whole)

pub apply_chosen-requires-clause-moves : goal.apply_chosen-requires-clause-moves
apply_chosen-requires-clause-moves c =
    let r : Records = record { input = c.args.input_layout.now; output = c.args.output_layout.now } in
    let m = c.args.self.now in
    subst (λ (ss : List StatementMoves). AreMoves r (moves_by m.moves.reading r ss)) (sym c.as_slice-statements.ensures.value) (c.requires.prepared.moves m.moves.reading)

pub apply_chosen-requires-clause-unnoted : goal.apply_chosen-requires-clause-unnoted
apply_chosen-requires-clause-unnoted c =
    let m = c.args.self.now in
    unnoted_all m.moves.statements.items c.as_slice-statements.result.now m.moves.unnoted.items c.as_slice-unnoted.result.now c.as_slice-statements.ensures.value c.as_slice-unnoted.ensures.value m.moves.room

pub apply_chosen-requires-clause-space : goal.apply_chosen-requires-clause-space
apply_chosen-requires-clause-space c =
    let r : Records = record { input = c.args.input_layout.now; output = c.args.output_layout.now } in
    workspace_of r c.args.input.now c.args.output.now c.scratch.inside.space c.args.scratch.now c.scratch.view_is c.requires.room c.requires.kept_input c.requires.kept_output

pub returns-clause-applied : goal.returns-clause-applied
returns-clause-applied c =
    let r : Records = record { input = c.args.input_layout.now; output = c.args.output_layout.now } in
    let m = c.args.self.now in
    subst (λ (ss : List StatementMoves). Applied r (moves_by m.moves.reading r ss) c.args.input.now c.args.output.now (ending c.apply_chosen.result c.apply_chosen.new.output))
    c.as_slice-statements.ensures.value c.apply_chosen.ensures.applied

pub returns-clause-reads : goal.returns-clause-reads
returns-clause-reads c =
    let r : Records = record { input = c.args.input_layout.now; output = c.args.output_layout.now } in
    let m = c.args.self.now in
    let ms : List Move = moves_of r m.moves in
    told_reads r ms c.args.input.now c.args.output.now c.apply_chosen.result c.apply_chosen.new.output c.scratch.inside.space.output c.apply_chosen.new.space.output c.args.scratch.now (seen_in c.apply_chosen.new.space)
    (told_of r c.scratch.inside.space c.args.scratch.now c.scratch.view_is) (record { reads = refl; kept = refl })
    (subst (λ (ss : List StatementMoves). MovesSpend r (moves_by m.moves.reading r ss) c.args.input.now c.args.output.now c.apply_chosen.result c.apply_chosen.new.output c.scratch.inside.space.output c.apply_chosen.new.space.output)
    c.as_slice-statements.ensures.value c.apply_chosen.ensures.spends)
