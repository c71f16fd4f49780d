use Rattle.std.proofs.Common.{◌∷◌, arith, sym, subst}
use Rattle.std.proofs.lemmas.Result.{err_from_is_err_and}
use Rattle.cob_move_data.specs.Moves.{Records}
use Rattle.cob_move_deeds.specs.Carrying.{FlowSpends, FlowSpendsAtStop, LeavesFlows, StopsFlows, records_of_sides}
use Rattle.cob_move_deeds.specs.Flows.{FlowSupport, IsFlow}
use Rattle.cob_move_deeds.specs.Prepared.{flow_support}
use Rattle.cob_move_deeds.specs.declared.flow.Flow.{Flow}
use Rattle.cob_move_deeds.specs.declared.flow.Flow.TheVariants as flow
use Rattle.cob_move_deeds.proofs.FlowLemmas.{leaves_on, loop_here, moves_leave, moves_stop, not_past_leaves, past_leaves, skip_leaves, stops_on, test_stops, there, turns_leave, turns_stop}
use Rattle.cob_move_deeds.proofs.ReadLemmas.{moves_spend, moves_stop_reads, past_spends, skip_spends, spends_on, test_stop_reads, turns_spend, turns_stop_reads, within_spends}
use Rattle.cob_move_deeds.proofs.RowLemmas.{stop_on}
use Rattle.cob_move_deeds.proofs.carrying.next.Goals as goal

pub returns-in_err-make_moves-in-Moves-clause-stops : goal.returns-in_err-make_moves-in-Moves-clause-stops
returns-in_err-make_moves-in-Moves-clause-stops c =
    let r : Records = records_of_sides c.args.sides.now in
    let on : FlowSupport = flow_support c.args.deeds.now in
    let more = c.args.more.now in
    let p = err_from_is_err_and c.from_residual.result c.from_residual.ensures.1 in
    rw (p.1, p.2) (subst (λ (f : Flow). StopsFlows r on (f ∷ more) c.args.sides.now.input.now c.args.output.now c.in_err-make_moves-in-Moves.field-0.0 c.make_moves.new.output) (sym c.in-Moves.is)
    (moves_stop r on c.in-Moves.number more c.args.sides.now.input.now c.args.output.now c.make_moves.new.output c.in_err-make_moves-in-Moves.field-0.0 c.in_err-make_moves-in-Moves.ensures.applied))

pub returns-in_ok-make_moves-in-Moves-clause-leaves : goal.returns-in_ok-make_moves-in-Moves-clause-leaves
returns-in_ok-make_moves-in-Moves-clause-leaves c =
    let r : Records = records_of_sides c.args.sides.now in
    let on : FlowSupport = flow_support c.args.deeds.now in
    let more = c.args.more.now in
    subst (λ (f : Flow). LeavesFlows r on (f ∷ more) more c.args.sides.now.input.now c.args.output.now c.make_moves.new.output) (sym c.in-Moves.is)
    (moves_leave r on c.in-Moves.number more c.args.sides.now.input.now c.args.output.now c.make_moves.new.output c.in_ok-make_moves-in-Moves.ensures.applied)

pub make_turns-requires-clause-counted : goal.make_turns-requires-clause-counted
make_turns-requires-clause-counted c =
    let on : FlowSupport = flow_support c.args.deeds.now in
    let (l, at, is) = subst (λ (f : Flow). IsFlow on f) c.in-Turns.is c.requires.each.0 in
    loop_here on c.in-Turns.number l c.index.result.now at is c.index.ensures

pub returns-in_ok-make_turns-in-Turns-clause-leaves : goal.returns-in_ok-make_turns-in-Turns-clause-leaves
returns-in_ok-make_turns-in-Turns-clause-leaves c =
    let r : Records = records_of_sides c.args.sides.now in
    let on : FlowSupport = flow_support c.args.deeds.now in
    let more = c.args.more.now in
    let (l, at, is) = subst (λ (f : Flow). IsFlow on f) c.in-Turns.is c.requires.each.0 in
    subst (λ (f : Flow). LeavesFlows r on (f ∷ more) more c.args.sides.now.input.now c.args.output.now c.make_turns.new.output) (sym c.in-Turns.is)
    (turns_leave r on c.in-Turns.number more c.index.result.now c.args.sides.now.input.now c.args.output.now c.make_turns.new.output (there on c.in-Turns.number l c.index.result.now at c.index.ensures) c.in_ok-make_turns-in-Turns.ensures.carried)

pub returns-in_err-make_turns-in-Turns-clause-stops : goal.returns-in_err-make_turns-in-Turns-clause-stops
returns-in_err-make_turns-in-Turns-clause-stops c =
    let r : Records = records_of_sides c.args.sides.now in
    let on : FlowSupport = flow_support c.args.deeds.now in
    let more = c.args.more.now in
    let (l, at, is) = subst (λ (f : Flow). IsFlow on f) c.in-Turns.is c.requires.each.0 in
    let p = err_from_is_err_and c.from_residual-in_err-make_turns-in-Turns.result c.from_residual-in_err-make_turns-in-Turns.ensures.1 in
    rw (p.1, p.2) (subst (λ (f : Flow). StopsFlows r on (f ∷ more) c.args.sides.now.input.now c.args.output.now c.in_err-make_turns-in-Turns.field-0.0 c.make_turns.new.output) (sym c.in-Turns.is)
    (turns_stop r on c.in-Turns.number more c.index.result.now c.args.sides.now.input.now c.args.output.now c.make_turns.new.output c.in_err-make_turns-in-Turns.field-0.0 (there on c.in-Turns.number l c.index.result.now at c.index.ensures) c.in_err-make_turns-in-Turns.ensures.carried))

pub returns-in_err-last-in-Until-clause-stops : goal.returns-in_err-last-in-Until-clause-stops
returns-in_err-last-in-Until-clause-stops c =
    let r : Records = records_of_sides c.args.sides.now in
    let on : FlowSupport = flow_support c.args.deeds.now in
    let more = c.args.more.now in
    let (b, at) = subst (λ (f : Flow). IsFlow on f) c.in-Until.is c.requires.each.0 in
    let p = err_from_is_err_and c.from_residual-in_err-last-in-Until.result c.from_residual-in_err-last-in-Until.ensures.1 in
    rw (p.1, p.2) (subst (λ (f : Flow). StopsFlows r on (f ∷ more) c.args.sides.now.input.now c.args.output.now c.in_err-last-in-Until.field-0.0 c.args.output.now) (sym c.in-Until.is)
    (test_stops r on c.in-Until.bound c.in-Until.number c.in-Until.skip more b c.args.sides.now.input.now c.args.output.now c.in_err-last-in-Until.field-0.0 at (c.in_err-last-in-Until.ensures.says b at)))

pub returns-then-last-number-clause-leaves : goal.returns-then-last-number-clause-leaves
returns-then-last-number-clause-leaves c =
    let r : Records = records_of_sides c.args.sides.now in
    let on : FlowSupport = flow_support c.args.deeds.now in
    let more = c.args.more.now in
    let (b, at) = subst (λ (f : Flow). IsFlow on f) c.in-Until.is c.requires.each.0 in
    subst (λ (f : Flow). LeavesFlows r on (f ∷ more) c.behind.result.now c.args.sides.now.input.now c.args.output.now c.args.output.now) (sym c.in-Until.is)
    (past_leaves r on c.in-Until.bound c.in-Until.number c.in-Until.skip more c.behind.result.now b c.args.sides.now.input.now c.args.output.now c.in_ok-last-in-Until.last at (c.in_ok-last-in-Until.ensures.says b at)
    (grind (arith, c.if-last-number.true)) c.behind.ensures.value)

pub returns-in_ok-make_moves-in-Moves-clause-spends : goal.returns-in_ok-make_moves-in-Moves-clause-spends
returns-in_ok-make_moves-in-Moves-clause-spends c =
    let r : Records = records_of_sides c.args.sides.now in
    let on : FlowSupport = flow_support c.args.deeds.now in
    let more = c.args.more.now in
    subst (λ (f : Flow). FlowSpends r on (f ∷ more) more c.args.sides.now.input.now c.args.output.now c.make_moves.new.output c.args.scratch.now c.make_moves.new.scratch) (sym c.in-Moves.is)
    (moves_spend r on c.in-Moves.number more c.args.sides.now.input.now c.args.output.now c.make_moves.new.output c.args.scratch.now c.make_moves.new.scratch c.in_ok-make_moves-in-Moves.ensures.applied c.in_ok-make_moves-in-Moves.ensures.reads)

pub returns-in_err-make_moves-in-Moves-clause-spent : goal.returns-in_err-make_moves-in-Moves-clause-spent
returns-in_err-make_moves-in-Moves-clause-spent c =
    let r : Records = records_of_sides c.args.sides.now in
    let on : FlowSupport = flow_support c.args.deeds.now in
    let more = c.args.more.now in
    let p = err_from_is_err_and c.from_residual.result c.from_residual.ensures.1 in
    rw p.1 (subst (λ (f : Flow). FlowSpendsAtStop r on (f ∷ more) c.args.sides.now.input.now c.args.output.now c.args.scratch.now c.make_moves.new.scratch) (sym c.in-Moves.is)
    (moves_stop_reads r on c.in-Moves.number more c.args.sides.now.input.now c.args.output.now c.in_err-make_moves-in-Moves.field-0.0 c.args.scratch.now c.make_moves.new.scratch c.in_err-make_moves-in-Moves.ensures.reads))

pub returns-in_ok-make_turns-in-Turns-clause-spends : goal.returns-in_ok-make_turns-in-Turns-clause-spends
returns-in_ok-make_turns-in-Turns-clause-spends c =
    let r : Records = records_of_sides c.args.sides.now in
    let on : FlowSupport = flow_support c.args.deeds.now in
    let more = c.args.more.now in
    let (l, at, is) = subst (λ (f : Flow). IsFlow on f) c.in-Turns.is c.requires.each.0 in
    subst (λ (f : Flow). FlowSpends r on (f ∷ more) more c.args.sides.now.input.now c.args.output.now c.make_turns.new.output c.args.scratch.now c.make_turns.new.scratch) (sym c.in-Turns.is)
    (turns_spend c.tests_are_one.ensures c.one_ending.ensures r on c.in-Turns.number more c.index.result.now c.args.sides.now.input.now c.args.output.now c.make_turns.new.output c.args.scratch.now c.make_turns.new.scratch
    (there on c.in-Turns.number l c.index.result.now at c.index.ensures) c.in_ok-make_turns-in-Turns.ensures.carried c.in_ok-make_turns-in-Turns.ensures.reads)

pub returns-in_err-make_turns-in-Turns-clause-spent : goal.returns-in_err-make_turns-in-Turns-clause-spent
returns-in_err-make_turns-in-Turns-clause-spent c =
    let r : Records = records_of_sides c.args.sides.now in
    let on : FlowSupport = flow_support c.args.deeds.now in
    let more = c.args.more.now in
    let (l, at, is) = subst (λ (f : Flow). IsFlow on f) c.in-Turns.is c.requires.each.0 in
    let p = err_from_is_err_and c.from_residual-in_err-make_turns-in-Turns.result c.from_residual-in_err-make_turns-in-Turns.ensures.1 in
    rw p.1 (subst (λ (f : Flow). FlowSpendsAtStop r on (f ∷ more) c.args.sides.now.input.now c.args.output.now c.args.scratch.now c.make_turns.new.scratch) (sym c.in-Turns.is)
    (turns_stop_reads r on c.in-Turns.number more c.index.result.now c.args.sides.now.input.now c.args.output.now c.in_err-make_turns-in-Turns.field-0.0 c.args.scratch.now c.make_turns.new.scratch
    (there on c.in-Turns.number l c.index.result.now at c.index.ensures) c.in_err-make_turns-in-Turns.ensures.reads))

pub returns-in_err-last-in-Until-clause-spent : goal.returns-in_err-last-in-Until-clause-spent
returns-in_err-last-in-Until-clause-spent c =
    let r : Records = records_of_sides c.args.sides.now in
    let on : FlowSupport = flow_support c.args.deeds.now in
    let p = err_from_is_err_and c.from_residual-in_err-last-in-Until.result c.from_residual-in_err-last-in-Until.ensures.1 in
    rw p.1 (test_stop_reads r on (c.args.flow.now ∷ c.args.more.now) c.args.sides.now.input.now c.args.output.now c.in_err-last-in-Until.field-0.0 c.args.scratch.now c.bound_now.new.scratch c.in_err-last-in-Until.ensures.reads)

pub returns-then-last-number-clause-spends : goal.returns-then-last-number-clause-spends
returns-then-last-number-clause-spends c =
    let r : Records = records_of_sides c.args.sides.now in
    let on : FlowSupport = flow_support c.args.deeds.now in
    let more = c.args.more.now in
    let (b, at) = subst (λ (f : Flow). IsFlow on f) c.in-Until.is c.requires.each.0 in
    subst (λ (f : Flow). FlowSpends r on (f ∷ more) c.behind.result.now c.args.sides.now.input.now c.args.output.now c.args.output.now c.args.scratch.now c.bound_now.new.scratch) (sym c.in-Until.is)
    (past_spends r on c.in-Until.bound c.in-Until.number c.in-Until.skip more c.behind.result.now b c.args.sides.now.input.now c.args.output.now c.in_ok-last-in-Until.last c.args.scratch.now c.bound_now.new.scratch at (c.in_ok-last-in-Until.ensures.says b at)
    (grind (arith, c.if-last-number.true)) c.behind.ensures.value c.in_ok-last-in-Until.ensures.reads)

pub returns-in_err-left-in-Until-clause-stops : goal.returns-in_err-left-in-Until-clause-stops
returns-in_err-left-in-Until-clause-stops c =
    let r : Records = records_of_sides c.args.sides.now in
    let on : FlowSupport = flow_support c.args.deeds.now in
    let more = c.args.more.now in
    let (b, at) = subst (λ (f : Flow). IsFlow on f) c.in-Until.is c.requires.each.0 in
    let p = err_from_is_err_and c.from_residual-in_err-left-in-Until.result c.from_residual-in_err-left-in-Until.ensures.1 in
    let first = not_past_leaves r on c.in-Until.bound c.in-Until.number c.in-Until.skip more b c.args.sides.now.input.now c.args.output.now c.in_ok-last-in-Until.last at (c.in_ok-last-in-Until.ensures.says b at)
    (grind (arith, c.if-last-number.false)) in
    rw (p.1, p.2) (subst (λ (f : Flow). StopsFlows r on (f ∷ more) c.args.sides.now.input.now c.args.output.now c.in_err-left-in-Until.field-0.0 c.make_row.new.output) (sym c.in-Until.is)
    (stops_on r on (flow.Until c.in-Until.bound c.in-Until.number c.in-Until.skip ∷ more) more c.args.sides.now.input.now c.args.output.now c.args.output.now c.make_row.new.output c.in_err-left-in-Until.field-0.0 first c.in_err-left-in-Until.ensures.stops))

pub returns-in_err-left-in-Until-clause-spent : goal.returns-in_err-left-in-Until-clause-spent
returns-in_err-left-in-Until-clause-spent c =
    let r : Records = records_of_sides c.args.sides.now in
    let on : FlowSupport = flow_support c.args.deeds.now in
    let more = c.args.more.now in
    let (b, at) = subst (λ (f : Flow). IsFlow on f) c.in-Until.is c.requires.each.0 in
    let p = err_from_is_err_and c.from_residual-in_err-left-in-Until.result c.from_residual-in_err-left-in-Until.ensures.1 in
    let first = within_spends r on c.in-Until.bound c.in-Until.number c.in-Until.skip more b c.args.sides.now.input.now c.args.output.now c.in_ok-last-in-Until.last c.args.scratch.now c.bound_now.new.scratch at (c.in_ok-last-in-Until.ensures.says b at)
    (grind (arith, c.if-last-number.false)) c.in_ok-last-in-Until.ensures.reads in
    rw p.1 (subst (λ (f : Flow). FlowSpendsAtStop r on (f ∷ more) c.args.sides.now.input.now c.args.output.now c.args.scratch.now c.make_row.new.scratch) (sym c.in-Until.is)
    (stop_on r on (flow.Until c.in-Until.bound c.in-Until.number c.in-Until.skip ∷ more) more c.args.sides.now.input.now c.args.output.now c.args.output.now c.args.scratch.now c.bound_now.new.scratch c.make_row.new.scratch first c.in_err-left-in-Until.ensures.spent))

pub returns-in_ok-left-in-Until-clause-leaves : goal.returns-in_ok-left-in-Until-clause-leaves
returns-in_ok-left-in-Until-clause-leaves c =
    let r : Records = records_of_sides c.args.sides.now in
    let on : FlowSupport = flow_support c.args.deeds.now in
    let more = c.args.more.now in
    let left = c.in_ok-left-in-Until.left.now in
    let (b, at) = subst (λ (f : Flow). IsFlow on f) c.in-Until.is c.requires.each.0 in
    let first = not_past_leaves r on c.in-Until.bound c.in-Until.number c.in-Until.skip more b c.args.sides.now.input.now c.args.output.now c.in_ok-last-in-Until.last at (c.in_ok-last-in-Until.ensures.says b at)
    (grind (arith, c.if-last-number.false)) in
    subst (λ (f : Flow). LeavesFlows r on (f ∷ more) left c.args.sides.now.input.now c.args.output.now c.make_row.new.output) (sym c.in-Until.is)
    (leaves_on r on (flow.Until c.in-Until.bound c.in-Until.number c.in-Until.skip ∷ more) more left c.args.sides.now.input.now c.args.output.now c.args.output.now c.make_row.new.output first c.in_ok-left-in-Until.ensures.leaves)

pub returns-in_ok-left-in-Until-clause-spends : goal.returns-in_ok-left-in-Until-clause-spends
returns-in_ok-left-in-Until-clause-spends c =
    let r : Records = records_of_sides c.args.sides.now in
    let on : FlowSupport = flow_support c.args.deeds.now in
    let more = c.args.more.now in
    let left = c.in_ok-left-in-Until.left.now in
    let (b, at) = subst (λ (f : Flow). IsFlow on f) c.in-Until.is c.requires.each.0 in
    let first = within_spends r on c.in-Until.bound c.in-Until.number c.in-Until.skip more b c.args.sides.now.input.now c.args.output.now c.in_ok-last-in-Until.last c.args.scratch.now c.bound_now.new.scratch at (c.in_ok-last-in-Until.ensures.says b at)
    (grind (arith, c.if-last-number.false)) c.in_ok-last-in-Until.ensures.reads in
    subst (λ (f : Flow). FlowSpends r on (f ∷ more) left c.args.sides.now.input.now c.args.output.now c.make_row.new.output c.args.scratch.now c.make_row.new.scratch) (sym c.in-Until.is)
    (spends_on r on (flow.Until c.in-Until.bound c.in-Until.number c.in-Until.skip ∷ more) more left c.args.sides.now.input.now c.args.output.now c.args.output.now c.make_row.new.output c.args.scratch.now c.bound_now.new.scratch c.make_row.new.scratch first
    c.in_ok-left-in-Until.ensures.spends)

pub returns-in_ok-make_moves-in-Moves-clause-known : goal.returns-in_ok-make_moves-in-Moves-clause-known
returns-in_ok-make_moves-in-Moves-clause-known c =
    let on : FlowSupport = flow_support c.args.deeds.now in
    c.leave.ensures (records_of_sides c.args.sides.now) on c.args.sides.now.input.now c.args.output.now c.make_moves.new.output c.requires.known c.requires.output
    (subst (λ (f : Flow). IsFlow on f) c.in-Moves.is c.requires.each.0) c.in_ok-make_moves-in-Moves.ensures.applied

pub returns-in_ok-make_turns-in-Turns-clause-known : goal.returns-in_ok-make_turns-in-Turns-clause-known
returns-in_ok-make_turns-in-Turns-clause-known c =
    c.new.ensures (records_of_sides c.args.sides.now) (flow_support c.args.deeds.now) c.args.sides.now.input.now c.make_turns.new.output

pub returns-in_err-left-in-Where-clause-spent : goal.returns-in_err-left-in-Where-clause-spent
returns-in_err-left-in-Where-clause-spent c =
    let r : Records = records_of_sides c.args.sides.now in
    let on : FlowSupport = flow_support c.args.deeds.now in
    let p = err_from_is_err_and c.from_residual-in_err-left-in-Where.result c.from_residual-in_err-left-in-Where.ensures.1 in
    rw p.1 (subst (λ (f : Flow). FlowSpendsAtStop r on (f ∷ c.args.more.now) c.args.sides.now.input.now c.args.output.now c.args.scratch.now c.take_branch.new.scratch) (sym c.in-Where.is)
    (c.in_err-left-in-Where.ensures.spent c.in-Where.lacking))

pub returns-in_ok-left-in-Where-clause-leaves : goal.returns-in_ok-left-in-Where-clause-leaves
returns-in_ok-left-in-Where-clause-leaves c =
    let r : Records = records_of_sides c.args.sides.now in
    let on : FlowSupport = flow_support c.args.deeds.now in
    subst (λ (f : Flow). LeavesFlows r on (f ∷ c.args.more.now) c.in_ok-left-in-Where.left.now c.args.sides.now.input.now c.args.output.now c.args.output.now) (sym c.in-Where.is)
    (c.in_ok-left-in-Where.ensures.leaves c.in-Where.lacking)

pub returns-in_ok-left-in-Where-clause-spends : goal.returns-in_ok-left-in-Where-clause-spends
returns-in_ok-left-in-Where-clause-spends c =
    let r : Records = records_of_sides c.args.sides.now in
    let on : FlowSupport = flow_support c.args.deeds.now in
    subst (λ (f : Flow). FlowSpends r on (f ∷ c.args.more.now) c.in_ok-left-in-Where.left.now c.args.sides.now.input.now c.args.output.now c.args.output.now c.args.scratch.now c.take_branch.new.scratch) (sym c.in-Where.is)
    (c.in_ok-left-in-Where.ensures.spends c.in-Where.lacking)

pub returns-in-Skip-clause-leaves : goal.returns-in-Skip-clause-leaves
returns-in-Skip-clause-leaves c =
    let r : Records = records_of_sides c.args.sides.now in
    let on : FlowSupport = flow_support c.args.deeds.now in
    subst (λ (f : Flow). LeavesFlows r on (f ∷ c.args.more.now) c.behind-in-Skip.result.now c.args.sides.now.input.now c.args.output.now c.args.output.now) (sym c.in-Skip.is)
    (skip_leaves r on c.in-Skip.count c.args.more.now c.behind-in-Skip.result.now c.args.sides.now.input.now c.args.output.now c.behind-in-Skip.ensures.value)

pub returns-in-Skip-clause-spends : goal.returns-in-Skip-clause-spends
returns-in-Skip-clause-spends c =
    let r : Records = records_of_sides c.args.sides.now in
    let on : FlowSupport = flow_support c.args.deeds.now in
    subst (λ (f : Flow). FlowSpends r on (f ∷ c.args.more.now) c.behind-in-Skip.result.now c.args.sides.now.input.now c.args.output.now c.args.output.now c.args.scratch.now c.args.scratch.now) (sym c.in-Skip.is)
    (skip_spends r on c.in-Skip.count c.args.more.now c.behind-in-Skip.result.now c.args.sides.now.input.now c.args.output.now c.args.scratch.now c.behind-in-Skip.ensures.value)
