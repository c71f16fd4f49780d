use Rattle.std.proofs.Common.{◌++◌, ◌∙◌, List, ap, length, replicate, subst, sym, true}
use Rattle.std.specs.List.{AllByRecursion, flat_map}
use Rattle.cob_move_deeds.specs.declared.flow.Flow.{Flow}
use Rattle.cob_move_deeds.specs.Flows.{FlowSupport, IsFlow}
use Rattle.cob_move_deeds.specs.Prepared.{flow_support}
use Rattle.cob_back_runs.specs.Tested.{flow_moves}
use Rattle.cob_back_runs.proofs.TestedLemmas.{flow_more, flows_done}
use Rattle.cob_back_runs.proofs.tested.push_for_flows.Goals as goal

pub loop-flow-preserved : goal.loop-flow-preserved
loop-flow-preserved c =
    let on : FlowSupport = flow_support c.args.deeds.now in
    let so = c.loop-flow.marks.items in record {
      each = (subst (λ (fs : List Flow). AllByRecursion (IsFlow on) fs) c.in-Some.ensures.cases.0 c.loop-flow.invariant.each).1;
      marks = λ r prepared.
          flow_more r on c.in-Some.flow.now c.in-Some.more.now so c.push_for_flow.new.marks.items (c.args.marks.now.items ++ replicate (length (flat_map (flow_moves r on) c.args.flows.now)) true)
          (c.in_ok-push_for_flow.ensures r prepared)
          (ap (λ (fs : List Flow). so ++ replicate (length (flat_map (flow_moves r on) fs)) true) (sym c.in-Some.ensures.cases.0) ∙ c.loop-flow.invariant.marks r prepared);
    }

pub returns : goal.returns
returns c = λ r prepared.
    let on : FlowSupport = flow_support c.args.deeds.now in
    flows_done r on c.loop-flow.rest.now c.loop-flow.marks.items (c.args.marks.now.items ++ replicate (length (flat_map (flow_moves r on) c.args.flows.now)) true) c.in_default.ensures.cases
    (c.loop-flow.invariant.marks r prepared)
