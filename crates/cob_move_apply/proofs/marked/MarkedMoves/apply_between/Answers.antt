use Rattle.std.proofs.Common.{◌≡◌, List, ap, arith, length, refl, subst, sym}
use Rattle.cob_move_data.specs.declared.operands.StatementMoves.{StatementMoves}
use Rattle.cob_move_data.specs.Moves.{Move, Records, moves_by}
use Rattle.cob_move_apply.specs.Applied.{Applied, ending}
use Rattle.cob_move_apply.specs.Marked.{items_between, mark_at, moves_between_marks}
use Rattle.cob_move_apply.specs.Spent.{MovesSpend}
use Rattle.cob_move_apply.specs.Steps.{StandFor, support_of}
use Rattle.cob_move_apply.specs.declared.marking.Mark.{Mark}
use Rattle.cob_move_apply.proofs.BetweenLemmas.{same_between, statement_within}
use Rattle.cob_move_apply.proofs.ByRuleLemmas.{moves_between, unnoted_between}
use Rattle.cob_move_apply.proofs.MarkLemmas.{mark_read, stand_sliced, step_within}
use Rattle.cob_move_apply.proofs.ReadsLemmas.{seen_in, told_of, told_reads, workspace_of}
use Rattle.cob_move_apply.proofs.marked.MarkedMoves.apply_between.Goals as goal

pub steps_between-requires-clause-rises : goal.steps_between-requires-clause-rises
steps_between-requires-clause-rises c =
    let r : Records = record { input = c.args.input_layout.now; output = c.args.output_layout.now } in
    let m = c.args.self.now in
    (step_within r m.moves.statements.items (support_of m.moves.plan) m.moves.plan.steps.items m.marks.items c.args.from c.args.to c.index-begin.result.now c.index-end.result.now
    c.requires.prepared.parted c.requires.rises c.requires.within c.index-begin.ensures c.index-end.ensures).0

pub steps_between-requires-clause-within : goal.steps_between-requires-clause-within
steps_between-requires-clause-within c =
    let r : Records = record { input = c.args.input_layout.now; output = c.args.output_layout.now } in
    let m = c.args.self.now in
    let both = step_within r m.moves.statements.items (support_of m.moves.plan) m.moves.plan.steps.items m.marks.items c.args.from c.args.to c.index-begin.result.now c.index-end.result.now
    c.requires.prepared.parted c.requires.rises c.requires.within c.index-begin.ensures c.index-end.ensures in
    omega (arith, both.1, ap length c.as_slice-steps.ensures.value)

pub statements_from-requires-clause-rises : goal.statements_from-requires-clause-rises
statements_from-requires-clause-rises c =
    let r : Records = record { input = c.args.input_layout.now; output = c.args.output_layout.now } in
    let m = c.args.self.now in
    (statement_within r m.moves.statements.items (support_of m.moves.plan) m.moves.plan.steps.items m.marks.items c.args.from c.args.to c.index-begin.result.now c.index-end.result.now
    c.requires.prepared.parted c.requires.prepared.whole c.requires.rises c.requires.within c.index-begin.ensures c.index-end.ensures).0

pub statements_from-requires-clause-within : goal.statements_from-requires-clause-within
statements_from-requires-clause-within c =
    let r : Records = record { input = c.args.input_layout.now; output = c.args.output_layout.now } in
    let m = c.args.self.now in
    let both = statement_within r m.moves.statements.items (support_of m.moves.plan) m.moves.plan.steps.items m.marks.items c.args.from c.args.to c.index-begin.result.now c.index-end.result.now
    c.requires.prepared.parted c.requires.prepared.whole c.requires.rises c.requires.within c.index-begin.ensures c.index-end.ensures in
    omega (arith, both.1, ap length c.as_slice-statements.ensures.value)

pub apply_chosen-requires-clause-steps : goal.apply_chosen-requires-clause-steps
apply_chosen-requires-clause-steps c =
    let r : Records = record { input = c.args.input_layout.now; output = c.args.output_layout.now } in
    let m = c.args.self.now in
    let same =
    same_between m.moves.statements.items c.as_slice-statements.result.now c.statements_from.result.now _ _ c.index-begin.result.now.statement c.index-end.result.now.statement
    (ap (λ (k : Mark). k.statement) (mark_read m.marks.items c.args.from c.index-begin.result.now (omega (arith, c.requires.rises, c.requires.within)) c.index-begin.ensures))
    (ap (λ (k : Mark). k.statement) (mark_read m.marks.items c.args.to c.index-end.result.now c.requires.within c.index-end.ensures))
    c.as_slice-statements.ensures.value c.statements_from.ensures in
    subst (λ (ss : List StatementMoves). StandFor m.moves.reading r c.as_slice-statements.result.now c.steps_between.result.now (support_of m.moves.plan) (moves_by m.moves.reading r ss)) (sym same)
    (stand_sliced m.moves.reading r m.moves.statements.items c.as_slice-statements.result.now (support_of m.moves.plan) m.moves.plan.steps.items c.as_slice-steps.result.now c.steps_between.result.now m.marks.items
    c.args.from c.args.to c.index-begin.result.now c.index-end.result.now c.as_slice-statements.ensures.value c.as_slice-steps.ensures.value c.steps_between.ensures c.requires.prepared.parted c.requires.rises c.requires.within
    c.index-begin.ensures c.index-end.ensures)

pub apply_chosen-requires-clause-moves : goal.apply_chosen-requires-clause-moves
apply_chosen-requires-clause-moves c =
    let r : Records = record { input = c.args.input_layout.now; output = c.args.output_layout.now } in
    let m = c.args.self.now in
    let same =
    same_between m.moves.statements.items c.as_slice-statements.result.now c.statements_from.result.now _ _ c.index-begin.result.now.statement c.index-end.result.now.statement
    (ap (λ (k : Mark). k.statement) (mark_read m.marks.items c.args.from c.index-begin.result.now (omega (arith, c.requires.rises, c.requires.within)) c.index-begin.ensures))
    (ap (λ (k : Mark). k.statement) (mark_read m.marks.items c.args.to c.index-end.result.now c.requires.within c.index-end.ensures))
    c.as_slice-statements.ensures.value c.statements_from.ensures in
    moves_between m.moves.reading r (mark_at m.marks.items c.args.from).statement (mark_at m.marks.items c.args.to).statement m.moves.statements.items c.statements_from.result.now same (c.requires.prepared.moves m.moves.reading)

pub apply_chosen-requires-clause-unnoted : goal.apply_chosen-requires-clause-unnoted
apply_chosen-requires-clause-unnoted c =
    let m = c.args.self.now in
    let same =
    same_between m.moves.statements.items c.as_slice-statements.result.now c.statements_from.result.now _ _ c.index-begin.result.now.statement c.index-end.result.now.statement
    (ap (λ (k : Mark). k.statement) (mark_read m.marks.items c.args.from c.index-begin.result.now (omega (arith, c.requires.rises, c.requires.within)) c.index-begin.ensures))
    (ap (λ (k : Mark). k.statement) (mark_read m.marks.items c.args.to c.index-end.result.now c.requires.within c.index-end.ensures))
    c.as_slice-statements.ensures.value c.statements_from.ensures in
    unnoted_between (mark_at m.marks.items c.args.from).statement (mark_at m.marks.items c.args.to).statement m.moves.statements.items c.statements_from.result.now m.moves.unnoted.items c.as_slice-unnoted.result.now same c.as_slice-unnoted.ensures.value m.moves.room

pub apply_chosen-requires-clause-space : goal.apply_chosen-requires-clause-space
apply_chosen-requires-clause-space c =
    let r : Records = record { input = c.args.input_layout.now; output = c.args.output_layout.now } in
    workspace_of r c.args.input.now c.args.output.now c.scratch.inside.space c.args.scratch.now c.scratch.view_is c.requires.room c.requires.kept_input c.requires.kept_output

pub returns-clause-applied : goal.returns-clause-applied
returns-clause-applied c =
    let r : Records = record { input = c.args.input_layout.now; output = c.args.output_layout.now } in
    let m = c.args.self.now in
    let same =
    same_between m.moves.statements.items c.as_slice-statements.result.now c.statements_from.result.now _ _ c.index-begin.result.now.statement c.index-end.result.now.statement
    (ap (λ (k : Mark). k.statement) (mark_read m.marks.items c.args.from c.index-begin.result.now (omega (arith, c.requires.rises, c.requires.within)) c.index-begin.ensures))
    (ap (λ (k : Mark). k.statement) (mark_read m.marks.items c.args.to c.index-end.result.now c.requires.within c.index-end.ensures))
    c.as_slice-statements.ensures.value c.statements_from.ensures in
    subst (λ (ss : List StatementMoves). Applied r (moves_by m.moves.reading r ss) c.args.input.now c.args.output.now (ending c.apply_chosen.result c.apply_chosen.new.output)) same
    c.apply_chosen.ensures.applied

pub returns-clause-reads : goal.returns-clause-reads
returns-clause-reads c =
    let r : Records = record { input = c.args.input_layout.now; output = c.args.output_layout.now } in
    let m = c.args.self.now in
    let ms : List Move = moves_between_marks r m c.args.from c.args.to in
    let same =
    same_between m.moves.statements.items c.as_slice-statements.result.now c.statements_from.result.now _ _ c.index-begin.result.now.statement c.index-end.result.now.statement
    (ap (λ (k : Mark). k.statement) (mark_read m.marks.items c.args.from c.index-begin.result.now (omega (arith, c.requires.rises, c.requires.within)) c.index-begin.ensures))
    (ap (λ (k : Mark). k.statement) (mark_read m.marks.items c.args.to c.index-end.result.now c.requires.within c.index-end.ensures))
    c.as_slice-statements.ensures.value c.statements_from.ensures in
    told_reads r ms c.args.input.now c.args.output.now c.apply_chosen.result c.apply_chosen.new.output c.scratch.inside.space.output c.apply_chosen.new.space.output c.args.scratch.now (seen_in c.apply_chosen.new.space)
    (told_of r c.scratch.inside.space c.args.scratch.now c.scratch.view_is) (record { reads = refl; kept = refl })
    (subst (λ (ss : List StatementMoves). MovesSpend r (moves_by m.moves.reading r ss) c.args.input.now c.args.output.now c.apply_chosen.result c.apply_chosen.new.output c.scratch.inside.space.output c.apply_chosen.new.space.output)
    same c.apply_chosen.ensures.spends)
