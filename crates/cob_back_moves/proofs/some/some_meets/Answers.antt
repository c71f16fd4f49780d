use Rattle.cob_move_data.specs.Moves.{statement_moves_by}
use Rattle.cob_back_moves.specs.Tested.{layout_records}
use Rattle.cob_back_moves.proofs.SomeLemmas.{legal_in_two, met_behind, met_else, parts}
use Rattle.cob_back_moves.proofs.some.some_meets.Goals as goal

pub some_of_these_meets-requires-clause-moves : goal.some_of_these_meets-requires-clause-moves
some_of_these_meets-requires-clause-moves g c =
    let l = c.args.moves.now.layouts in
    let all = c.args.moves.now.statements.now in
    let cut = parts c.min-middle.result all c.split_at.result.0.now c.split_at.result.1.now c.split_at.ensures.front c.split_at.ensures.back in
    (legal_in_two (layout_records l) (statement_moves_by l.reading (layout_records l)) c.split_at.result.0.now c.split_at.result.1.now all cut c.requires.legal.moves).1

pub returns-then-some_of_these_meets : goal.returns-then-some_of_these_meets
returns-then-some_of_these_meets g c =
    let l = c.args.moves.now.layouts in
    let all = c.args.moves.now.statements.now in
    let cut = parts c.min-middle.result all c.split_at.result.0.now c.split_at.result.1.now c.split_at.ensures.front c.split_at.ensures.back in
    met_behind (g.C.Condition.met c.args.condition.now) (statement_moves_by l.reading (layout_records l)) c.split_at.result.0.now c.split_at.result.1.now all c.some_of_these_meets.result cut
    c.if-some_of_these_meets.true c.some_of_these_meets.ensures

pub some_of_these_meets-requires-2-clause-moves : goal.some_of_these_meets-requires-2-clause-moves
some_of_these_meets-requires-2-clause-moves g c =
    let l = c.args.moves.now.layouts in
    let all = c.args.moves.now.statements.now in
    let cut = parts c.min-middle.result all c.split_at.result.0.now c.split_at.result.1.now c.split_at.ensures.front c.split_at.ensures.back in
    (legal_in_two (layout_records l) (statement_moves_by l.reading (layout_records l)) c.split_at.result.0.now c.split_at.result.1.now all cut c.requires.legal.moves).0

pub returns : goal.returns
returns g c =
    let l = c.args.moves.now.layouts in
    let all = c.args.moves.now.statements.now in
    let cut = parts c.min-middle.result all c.split_at.result.0.now c.split_at.result.1.now c.split_at.ensures.front c.split_at.ensures.back in
    met_else (g.C.Condition.met c.args.condition.now) (statement_moves_by l.reading (layout_records l)) c.split_at.result.0.now c.split_at.result.1.now all c.some_of_these_meets.result c.some_of_these_meets-2.result cut
    c.if-some_of_these_meets.false c.some_of_these_meets.ensures c.some_of_these_meets-2.ensures
