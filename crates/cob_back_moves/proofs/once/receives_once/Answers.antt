use Rattle.std.proofs.Common.{◌∙◌, rules}
use Rattle.std.proofs.lemmas.Bool.Decides.{not_from_Decides}
use Rattle.cob_move_data.specs.Singles.{plain_element, plain_single}
use Rattle.cob_back_moves.proofs.OnceLemmas.{once_again, once_first, once_other, once_over, once_start}
use Rattle.cob_back_moves.proofs.once.receives_once.Goals as goal

pub loop-single-init : goal.loop-single-init
loop-single-init c =
    once_start (plain_element c.args.element.now) c.into_iter-single-iterator.result c.args.statements.now
    (c.into_iter-single-iterator.ensures.into_iter_gives ∙ c.new-single-items.ensures)

pub returns-then-receives : goal.returns-then-receives
returns-then-receives c y r =
    once_again (plain_element c.args.element.now) c.loop-single.single-iterator c.next.new.self (plain_single c.in-Some.single) c.args.statements.now c.loop-single.receives y r
    c.in-Some.ensures.steps (c.is_at.ensures.0 (search rules)) (search rules) c.loop-single.invariant

pub loop-single-preserved-then-is_at : goal.loop-single-preserved-then-is_at
loop-single-preserved-then-is_at c =
    once_first (plain_element c.args.element.now) c.loop-single.single-iterator c.next.new.self (plain_single c.in-Some.single) c.args.statements.now c.loop-single.receives
    c.in-Some.ensures.steps (c.is_at.ensures.0 (search rules)) (search rules) c.loop-single.invariant

pub loop-single-preserved : goal.loop-single-preserved
loop-single-preserved c =
    once_other (plain_element c.args.element.now) c.loop-single.single-iterator c.next.new.self (plain_single c.in-Some.single) c.args.statements.now c.loop-single.receives
    c.in-Some.ensures.steps (not_from_Decides c.is_at.result c.is_at.ensures (search rules)) c.loop-single.invariant

pub returns : goal.returns
returns c y r =
    once_over (plain_element c.args.element.now) c.loop-single.single-iterator c.args.statements.now c.loop-single.receives y r c.in-None.ensures.steps.0 c.loop-single.invariant
