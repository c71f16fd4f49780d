use Rattle.std.proofs.Common.{◌∙◌, Bool, List, ap, false, length, subst, sym}
use Rattle.cob_move_data.specs.Moves.{Records}
use Rattle.cob_move_deeds.specs.declared.flow.Flow.{Flow}
use Rattle.cob_move_deeds.specs.Deeds.{Deeds}
use Rattle.cob_move_deeds.specs.Flows.{FlowSupport}
use Rattle.cob_move_deeds.specs.Prepared.{flow_support}
use Rattle.cob_move_deeds.specs.Tests.{Test}
use Rattle.cob_back_runs.specs.Tested.{tested_moves}
use Rattle.cob_back_runs.proofs.TestedLemmas.{LeftOf, marks_behind, marks_first, marks_from, marks_whole}
use Rattle.cob_back_runs.proofs.tested.move_marks.Goals as goal

pub loop-flow-init : goal.loop-flow-init
loop-flow-init c =
    let r : Records = c.args.conversion.now.records in
    let fs : List Flow = c.deeds-deeds.result.now.flows.items in
    let on : FlowSupport = flow_support c.deeds-deeds.result.now in
    let so : List Bool = c.new-marks.result.items in
    let flows = c.deeds-deeds.ensures.prepared.flows in
    subst (λ (gs : List Flow). LeftOf Bool on (marks_from r on) gs so (marks_from r on (length fs) fs)) (sym c.flows-rest.ensures)
    (marks_first r on fs so flows.each flows.nested c.new-marks.ensures.items)

pub loop-flow-preserved : goal.loop-flow-preserved
loop-flow-preserved c =
    let r : Records = c.args.conversion.now.records in
    let fs : List Flow = c.deeds-deeds.result.now.flows.items in
    let on : FlowSupport = flow_support c.deeds-deeds.result.now in
    let so = c.loop-flow.marks.items in
    let whole : List Bool = marks_from r on (length fs) fs in
    marks_behind r on c.in-Some.flow.now c.in-Some.more.now c.split_at.result.0.now c.split_at.result.1.now so c.push_for_flow.new.marks.items c.push_for_flows.new.marks.items whole
    (subst (λ (gs : List Flow). LeftOf Bool on (marks_from r on) gs so whole) c.in-Some.ensures.cases.0 c.loop-flow.invariant)
    (c.in_ok-push_for_flow.ensures r c.deeds-deeds.ensures.prepared) (c.in_ok-push_for_flows.ensures r c.deeds-deeds.ensures.prepared)
    (c.split_at.ensures.front ∙ c.passed_over.ensures.inside) (c.split_at.ensures.back ∙ c.passed_over.ensures.behind)

pub returns : goal.returns
returns c =
    let r : Records = c.args.conversion.now.records in
    let fs : List Flow = c.deeds-deeds.result.now.flows.items in
    let on : FlowSupport = flow_support c.deeds-deeds.result.now in
    marks_whole r on c.loop-flow.rest.now c.loop-flow.marks.items (marks_from r on (length fs) fs) c.loop-flow.invariant c.in_default.ensures.cases
    ∙ ap (λ (d : Deeds Test). tested_moves false d) c.deeds-deeds.ensures.value
