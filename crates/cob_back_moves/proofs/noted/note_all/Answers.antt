use Rattle.std.proofs.Common.{◌∙◌, rules}
use Rattle.cob_move_data.specs.Singles.{plain_single}
use Rattle.cob_back_moves.proofs.NotedLemmas.{noted_all, noted_next, noted_none}
use Rattle.cob_back_moves.proofs.noted.note_all.Goals as goal

pub loop-single-init : goal.loop-single-init
loop-single-init c =
    noted_none c.args.output.now c.args.noted.now c.into_iter-single-iterator.result c.args.statements.now
    (c.into_iter-single-iterator.ensures.into_iter_gives ∙ c.new-single-items.ensures)

pub loop-single-preserved : goal.loop-single-preserved
loop-single-preserved c =
    noted_next c.args.output.now c.loop-single.noted c.note.new.noted c.loop-single.single-iterator c.next.new.self (plain_single c.in-Some.single) c.args.statements.now
    c.in-Some.ensures.steps (c.note.ensures (search rules)) c.loop-single.invariant

pub returns : goal.returns
returns c x r = noted_all c.args.output.now c.loop-single.noted c.loop-single.single-iterator c.args.statements.now x r c.in-None.ensures.steps.0 c.loop-single.invariant
