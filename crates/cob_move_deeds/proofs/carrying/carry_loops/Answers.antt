use Rattle.std.proofs.Common.{◌∷◌, List, arith, refl, subst, ◌∙◌}
use Rattle.std.specs.List.{AllByRecursion}
use Rattle.std.proofs.lemmas.Result.{err_from_is_err_and}
use Rattle.cob_move_data.specs.Moves.{Records}
use Rattle.cob_move_deeds.specs.Carrying.{FlowSpends, LeavesFlows, records_of_sides}
use Rattle.cob_move_deeds.specs.Flows.{FlowSupport, IsFlow}
use Rattle.cob_move_deeds.specs.Prepared.{flow_support}
use Rattle.cob_move_deeds.specs.declared.flow.Flow.{Flow}
use Rattle.cob_move_deeds.proofs.FlowLemmas.{flows_none, leaves_first, leaves_on, stops_on}
use Rattle.cob_move_deeds.proofs.ReadLemmas.{spends_first, spends_on}
use Rattle.cob_move_deeds.proofs.RowLemmas.{stop_on}
use Rattle.cob_move_deeds.proofs.WalkLemmas.{ends_there, reads_at_stop, reads_there}
use Rattle.cob_move_deeds.proofs.carrying.carry_loops.Goals as goal

pub returns-clause-carried : goal.returns-clause-carried
returns-clause-carried c = λ n le.
    ends_there (records_of_sides c.args.sides.now) (flow_support c.args.deeds.now) n c.args.flows.now c.loop-flow.rest.now c.args.sides.now.input.now c.args.output.now c.loop-flow.output le
    (flows_none c.loop-flow.rest.now (omega (arith, c.in_default.ensures.cases))) c.loop-flow.invariant.left

pub returns-clause-reads : goal.returns-clause-reads
returns-clause-reads c = λ n le.
    reads_there (records_of_sides c.args.sides.now) (flow_support c.args.deeds.now) n c.args.flows.now c.loop-flow.rest.now c.args.sides.now.input.now c.args.output.now c.loop-flow.output c.args.scratch.now c.loop-flow.scratch le
    (flows_none c.loop-flow.rest.now (omega (arith, c.in_default.ensures.cases))) c.loop-flow.invariant.reads

pub next-requires-clause-each : goal.next-requires-clause-each
next-requires-clause-each c =
    let on : FlowSupport = flow_support c.args.deeds.now in
    subst (λ (fs : List Flow). AllByRecursion (IsFlow on) fs) c.in-Some.ensures.cases.0 c.loop-flow.invariant.each

pub returns-in_err-rest-clause-carried : goal.returns-in_err-rest-clause-carried
returns-in_err-rest-clause-carried c =
    let r : Records = records_of_sides c.args.sides.now in
    let on : FlowSupport = flow_support c.args.deeds.now in
    let all : List Flow = c.args.flows.now in
    let fs : List Flow = c.in-Some.flow.now ∷ c.in-Some.more.now in
    let p = err_from_is_err_and c.from_residual.result c.from_residual.ensures.1 in
    let left = subst (λ (gs : List Flow). LeavesFlows r on all gs c.args.sides.now.input.now c.args.output.now c.loop-flow.output) c.in-Some.ensures.cases.0 c.loop-flow.invariant.left in
    rw (p.1, p.2) (stops_on r on all fs c.args.sides.now.input.now c.args.output.now c.loop-flow.output c.next.new.output c.in_err-rest.field-0.0 left c.in_err-rest.ensures.stops)

pub returns-in_err-rest-clause-reads : goal.returns-in_err-rest-clause-reads
returns-in_err-rest-clause-reads c =
    let r : Records = records_of_sides c.args.sides.now in
    let on : FlowSupport = flow_support c.args.deeds.now in
    let all : List Flow = c.args.flows.now in
    let fs : List Flow = c.in-Some.flow.now ∷ c.in-Some.more.now in
    let p = err_from_is_err_and c.from_residual.result c.from_residual.ensures.1 in
    let spent = subst (λ (gs : List Flow). FlowSpends r on all gs c.args.sides.now.input.now c.args.output.now c.loop-flow.output c.args.scratch.now c.loop-flow.scratch) c.in-Some.ensures.cases.0 c.loop-flow.invariant.reads in
    rw p.1 (λ n le. reads_at_stop r on n all c.args.sides.now.input.now c.args.output.now c.in_err-rest.field-0.0 c.args.scratch.now c.next.new.scratch le
    (stop_on r on all fs c.args.sides.now.input.now c.args.output.now c.loop-flow.output c.args.scratch.now c.loop-flow.scratch c.next.new.scratch spent c.in_err-rest.ensures.spent))

pub loop-flow-init : goal.loop-flow-init
loop-flow-init c =
    let r : Records = records_of_sides c.args.sides.now in
    let on : FlowSupport = flow_support c.args.deeds.now in
    let all : List Flow = c.args.flows.now in record {
      left = leaves_first r on all c.args.sides.now.input.now c.args.output.now;
      each = c.requires.each;
      output = refl;
      reads = spends_first r on all c.args.sides.now.input.now c.args.output.now c.args.scratch.now;
      kept = c.requires.kept;
      known = c.new-known.ensures r on c.args.sides.now.input.now c.args.output.now;
    }

pub loop-flow-preserved : goal.loop-flow-preserved
loop-flow-preserved c =
    let r : Records = records_of_sides c.args.sides.now in
    let on : FlowSupport = flow_support c.args.deeds.now in
    let all : List Flow = c.args.flows.now in
    let fs : List Flow = c.in-Some.flow.now ∷ c.in-Some.more.now in
    let left = subst (λ (gs : List Flow). LeavesFlows r on all gs c.args.sides.now.input.now c.args.output.now c.loop-flow.output) c.in-Some.ensures.cases.0 c.loop-flow.invariant.left in
    let spent = subst (λ (gs : List Flow). FlowSpends r on all gs c.args.sides.now.input.now c.args.output.now c.loop-flow.output c.args.scratch.now c.loop-flow.scratch) c.in-Some.ensures.cases.0 c.loop-flow.invariant.reads in record {
      left = leaves_on r on all fs c.in_ok-rest.rest.now c.args.sides.now.input.now c.args.output.now c.loop-flow.output c.next.new.output left c.in_ok-rest.ensures.leaves;
      each = c.in_ok-rest.ensures.each;
      output = c.next.auto.output ∙ c.loop-flow.invariant.output;
      reads = spends_on r on all fs c.in_ok-rest.rest.now c.args.sides.now.input.now c.args.output.now c.loop-flow.output c.next.new.output c.args.scratch.now c.loop-flow.scratch c.next.new.scratch spent c.in_ok-rest.ensures.spends;
      kept = c.in_ok-rest.ensures.kept;
      known = c.in_ok-rest.ensures.known;
    }
