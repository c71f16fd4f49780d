use Rattle.std.proofs.Common.{◌∙◌, ap, arith, length, rules}
use Rattle.cob_move_data.specs.Singles.{plain_single}
use Rattle.cob_move_data.proofs.SingleLemmas.{all_taken, taken}
use Rattle.cob_move_data.proofs.singles.SinglesIterator.next.Goals as goal

pub returns-in-Some-single_at-clause-steps : goal.returns-in-Some-single_at-clause-steps
returns-in-Some-single_at-clause-steps c =
    let left = c.loop-moves.self-inside in
    c.loop-moves.invariant.0 ∙ taken left.statement left.taken c.in-Some.moves.now c.in-Some.behind.now left.statements.now (plain_single c.in-Some-single_at.single) c.in-Some.ensures.cases.0 c.in-Some-single_at.ensures

pub returns-in-Some-single_at-clause-goes : goal.returns-in-Some-single_at-clause-goes
returns-in-Some-single_at-clause-goes c =
    let left = c.loop-moves.self-inside in
    let step =
    c.loop-moves.invariant.0
    ∙ taken left.statement left.taken c.in-Some.moves.now c.in-Some.behind.now left.statements.now (plain_single c.in-Some-single_at.single) c.in-Some.ensures.cases.0 c.in-Some-single_at.ensures
    in
    let shorter = ap length step in search rules

pub loop-moves-preserved : goal.loop-moves-preserved
loop-moves-preserved c =
    let left = c.loop-moves.self-inside in (
      c.loop-moves.invariant.0 ∙ all_taken left.statement left.taken c.in-Some.moves.now c.in-Some.behind.now left.statements.now c.in-Some.ensures.cases.0 c.in_default-single_at.ensures,
      omega (arith, c.loop-moves.invariant.1, ap length c.in-Some.ensures.cases.0),
    )
