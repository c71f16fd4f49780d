use Rattle.std.proofs.Common.{◌≤◌, List, arith, length}
use Rattle.std.proofs.lemmas.Bool.Decides.{nat_tests}
use Rattle.std.proofs.lemmas.Result.{err_from_is_err_and}
use Rattle.cob_move_data.specs.Moves.{Records}
use Rattle.cob_move_apply.specs.Applied.{ending}
use Rattle.cob_move_deeds.specs.Carrying.{records_of_sides}
use Rattle.cob_move_deeds.specs.Flows.{FlowSupport}
use Rattle.cob_move_deeds.specs.Prepared.{flow_support}
use Rattle.cob_move_deeds.specs.declared.flow.Flow.{Flow}
use Rattle.cob_move_deeds.proofs.FlowLemmas.{flows_none}
use Rattle.cob_move_deeds.proofs.WalkLemmas.{ends_there, goes_on, reads_at_stop, reads_on, reads_there}
use Rattle.cob_move_deeds.proofs.choices.carry_out.Goals as goal

pub returns-clause-carried : goal.returns-clause-carried
returns-clause-carried c =
    let r : Records = records_of_sides c.args.sides.now in
    let on : FlowSupport = flow_support c.args.deeds.now in
    let all : List Flow = c.args.deeds.now.flows.items in
    goes_on r on all c.in_ok-left.left.now c.args.sides.now.input.now c.args.output.now c.carry_choices.new.output (ending c.carry_loops.result c.carry_loops.new.output) c.in_ok-left.ensures.carried.leaves
    c.carry_loops.ensures.carried

pub returns-clause-reads : goal.returns-clause-reads
returns-clause-reads c =
    let r : Records = records_of_sides c.args.sides.now in
    let on : FlowSupport = flow_support c.args.deeds.now in
    let all : List Flow = c.args.deeds.now.flows.items in
    reads_on r on all c.in_ok-left.left.now c.args.sides.now.input.now c.args.output.now c.carry_choices.new.output c.carry_loops.result c.args.scratch.now c.carry_choices.new.scratch c.carry_loops.new.scratch
    c.in_ok-left.ensures.carried.spends c.carry_loops.ensures.reads

pub returns-in_err-left-clause-carried : goal.returns-in_err-left-clause-carried
returns-in_err-left-clause-carried c =
    let p = err_from_is_err_and c.from_residual.result c.from_residual.ensures.1 in
    rw (p.1, p.2) (c.in_err-left.ensures.stops.stops (length c.args.deeds.now.flows.items) (omega arith))

pub returns-in_err-left-clause-reads : goal.returns-in_err-left-clause-reads
returns-in_err-left-clause-reads c =
    let r : Records = records_of_sides c.args.sides.now in
    let on : FlowSupport = flow_support c.args.deeds.now in
    let all : List Flow = c.args.deeds.now.flows.items in
    let p = err_from_is_err_and c.from_residual.result c.from_residual.ensures.1 in
    rw p.1 (reads_at_stop r on (length all) all c.args.sides.now.input.now c.args.output.now c.in_err-left.field-0.0 c.args.scratch.now c.carry_choices.new.scratch (omega arith) c.in_err-left.ensures.stops.spent)

pub returns-then-is_empty-clause-carried : goal.returns-then-is_empty-clause-carried
returns-then-is_empty-clause-carried c =
    let r : Records = records_of_sides c.args.sides.now in
    let on : FlowSupport = flow_support c.args.deeds.now in
    let all : List Flow = c.args.deeds.now.flows.items in
    let none : length c.in_ok-left.left.now ≤ 0 = grind (arith, nat_tests, c.is_empty.ensures, c.if-is_empty.true) in
    ends_there r on (length all) all c.in_ok-left.left.now c.args.sides.now.input.now c.args.output.now c.carry_choices.new.output (omega arith) (flows_none c.in_ok-left.left.now none) c.in_ok-left.ensures.carried.leaves

pub returns-then-is_empty-clause-reads : goal.returns-then-is_empty-clause-reads
returns-then-is_empty-clause-reads c =
    let r : Records = records_of_sides c.args.sides.now in
    let on : FlowSupport = flow_support c.args.deeds.now in
    let all : List Flow = c.args.deeds.now.flows.items in
    let none : length c.in_ok-left.left.now ≤ 0 = grind (arith, nat_tests, c.is_empty.ensures, c.if-is_empty.true) in
    reads_there r on (length all) all c.in_ok-left.left.now c.args.sides.now.input.now c.args.output.now c.carry_choices.new.output c.args.scratch.now c.carry_choices.new.scratch (omega arith)
    (flows_none c.in_ok-left.left.now none) c.in_ok-left.ensures.carried.spends
