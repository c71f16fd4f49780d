use Rattle.std.proofs.Common.{List, ap, arith, length, sym}
use Rattle.cob_move_data.specs.declared.operands.StatementMoves.{StatementMoves}
use Rattle.cob_move_data.specs.Moves.{moves_by}
use Rattle.cob_move_apply.specs.Steps.{support_of}
use Rattle.cob_move_apply.specs.declared.marking.Mark.{Mark}
use Rattle.cob_move_apply.proofs.BetweenLemmas.{same_between, statement_within}
use Rattle.cob_move_apply.proofs.MarkLemmas.{mark_read}
use Rattle.cob_move_apply.proofs.marked.MarkedMoves.statements_between.Goals as goal

pub statements_from-requires-clause-rises : goal.statements_from-requires-clause-rises
statements_from-requires-clause-rises c =
    let m = c.args.self.now in
    let (r, is) = c.requires.prepared in
    (statement_within r m.moves.statements.items (support_of m.moves.plan) m.moves.plan.steps.items m.marks.items c.args.from c.args.to c.index.result.now c.index-2.result.now
    is.parted is.whole c.requires.rises c.requires.within c.index.ensures c.index-2.ensures).0

pub statements_from-requires-clause-within : goal.statements_from-requires-clause-within
statements_from-requires-clause-within c =
    let m = c.args.self.now in
    let (r, is) = c.requires.prepared in
    let both = statement_within r m.moves.statements.items (support_of m.moves.plan) m.moves.plan.steps.items m.marks.items c.args.from c.args.to c.index.result.now c.index-2.result.now
    is.parted is.whole c.requires.rises c.requires.within c.index.ensures c.index-2.ensures in
    omega (arith, both.1, ap length c.as_slice.ensures.value)

pub returns-clause-value : goal.returns-clause-value
returns-clause-value c =
    let m = c.args.self.now in
    same_between m.moves.statements.items c.as_slice.result.now c.statements_from.result.now _ _ c.index.result.now.statement c.index-2.result.now.statement
    (ap (λ (k : Mark). k.statement) (mark_read m.marks.items c.args.from c.index.result.now (omega (arith, c.requires.rises, c.requires.within)) c.index.ensures))
    (ap (λ (k : Mark). k.statement) (mark_read m.marks.items c.args.to c.index-2.result.now c.requires.within c.index-2.ensures))
    c.as_slice.ensures.value c.statements_from.ensures

pub returns-clause-moves : goal.returns-clause-moves
returns-clause-moves c = λ r.
    let m = c.args.self.now in
    ap (λ (ss : List StatementMoves). moves_by m.moves.reading r ss)
    (sym (same_between m.moves.statements.items c.as_slice.result.now c.statements_from.result.now _ _ c.index.result.now.statement c.index-2.result.now.statement
    (ap (λ (k : Mark). k.statement) (mark_read m.marks.items c.args.from c.index.result.now (omega (arith, c.requires.rises, c.requires.within)) c.index.ensures))
    (ap (λ (k : Mark). k.statement) (mark_read m.marks.items c.args.to c.index-2.result.now c.requires.within c.index-2.ensures))
    c.as_slice.ensures.value c.statements_from.ensures))
