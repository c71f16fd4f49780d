use Rattle.std.proofs.Common.{◌∙◌, List, ap, min, arith}
use Rattle.cob_move_data.specs.declared.operands.StatementMoves.{StatementMoves}
use Rattle.cob_move_data.specs.Moves.{moves_by}
use Rattle.cob_move_apply.specs.Told.{most_moves_told, single_moves}
use Rattle.cob_move_apply.proofs.CountLemmas.{counted_all, counted_on}
use Rattle.cob_move_apply.proofs.moves.Moves.single_moves.Goals as goal

pub loop-one-preserved : goal.loop-one-preserved
loop-one-preserved c x r =
    counted_on x r c.deref-one-items.result.now c.loop-one.one-index c.one-item.result c.loop-one.count c.single_moves_in.result c.saturating_add-count.result
    (single_moves (moves_by x r c.deref-one-items.result.now)) most_moves_told 18446744073709551615
    c.loop-one-test.true c.one-item.is (c.single_moves_in.ensures x r) (omega arith) c.saturating_add-count.ensures (c.loop-one.invariant x r)

pub returns : goal.returns
returns c r =
    let x = c.args.self.now.reading in
    counted_all x r c.deref-one-items.result.now c.loop-one.one-index c.loop-one.count c.at_most_u32.result
    (single_moves (moves_by x r c.deref-one-items.result.now)) most_moves_told c.loop-one-test.false c.at_most_u32.ensures (c.loop-one.invariant x r)
    ∙ ap (λ (ss : List StatementMoves). min (single_moves (moves_by x r ss)) most_moves_told) c.deref-one-items.ensures.value
