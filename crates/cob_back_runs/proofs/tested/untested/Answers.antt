use Rattle.std.proofs.Common.{◌∙◌, List, ap, length, map, subst, sym}
use Rattle.std.specs.List.{AllByRecursion}
use Rattle.cob_back_moves.specs.declared.some.MovesBetween.{MovesBetween}
use Rattle.cob_move_data.specs.Moves.{Move, Records}
use Rattle.cob_move_deeds.specs.declared.flow.Flow.{Flow}
use Rattle.cob_move_deeds.specs.Deeds.{Deeds}
use Rattle.cob_move_deeds.specs.Flows.{FlowSupport}
use Rattle.cob_move_deeds.specs.Prepared.{deeds_of, flow_support}
use Rattle.cob_move_deeds.specs.Tests.{Test}
use Rattle.cob_back_runs.specs.Tested.{AreBetween, moves_told, untested_moves}
use Rattle.cob_back_runs.proofs.TestedLemmas.{LeftOf, untested_behind, untested_first, untested_from, untested_whole}
use Rattle.cob_back_runs.proofs.tested.untested.Goals as goal

pub loop-flow-init : goal.loop-flow-init
loop-flow-init c =
    let r : Records = record { input = c.layouts.result.0.now; output = c.layouts.result.1.now } in
    let fs : List Flow = c.deeds-deeds.result.now.flows.items in
    let on : FlowSupport = flow_support c.deeds-deeds.result.now in
    let so : List (List Move) = map moves_told c.new-stretches.result.items in
    let flows = c.deeds-deeds.ensures.prepared.flows in record {
      left = subst (λ (gs : List Flow). LeftOf (List Move) on (untested_from r on) gs so (untested_from r on (length fs) fs)) (sym c.flows-rest.ensures)
          (untested_first r on fs so flows.each flows.nested (ap (λ (xs : List MovesBetween). map moves_told xs) c.new-stretches.ensures.items));
      records = subst (λ (xs : List MovesBetween). AllByRecursion (AreBetween r) xs) (sym c.new-stretches.ensures.items) tt;
    }

pub loop-flow-preserved : goal.loop-flow-preserved
loop-flow-preserved c =
    let r : Records = record { input = c.layouts.result.0.now; output = c.layouts.result.1.now } in
    let fs : List Flow = c.deeds-deeds.result.now.flows.items in
    let on : FlowSupport = flow_support c.deeds-deeds.result.now in
    let so : List (List Move) = map moves_told c.loop-flow.stretches.items in
    let whole : List (List Move) = untested_from r on (length fs) fs in record {
      left = untested_behind r on c.in-Some.flow.now c.in-Some.more.now c.split_at.result.1.now so (map moves_told c.push_stretch.new.stretches.items) whole
          (subst (λ (gs : List Flow). LeftOf (List Move) on (untested_from r on) gs so whole) c.in-Some.ensures.cases.0 c.loop-flow.invariant.left)
          c.in_ok-push_stretch.ensures.moves (c.split_at.ensures.back ∙ c.passed_over.ensures.behind);
      records = c.in_ok-push_stretch.ensures.records;
    }

pub returns-clause-moves : goal.returns-clause-moves
returns-clause-moves c =
    let r : Records = record { input = c.layouts.result.0.now; output = c.layouts.result.1.now } in
    let fs : List Flow = c.deeds-deeds.result.now.flows.items in
    let on : FlowSupport = flow_support c.deeds-deeds.result.now in
    untested_whole r on c.loop-flow.rest.now (map moves_told c.loop-flow.stretches.items) (untested_from r on (length fs) fs) c.loop-flow.invariant.left c.in_default.ensures.cases
    ∙ ap (λ (q : Records). untested_moves (deeds_of q c.deeds-deeds.result.now)) (sym c.layouts.ensures)
    ∙ ap (λ (d : Deeds Test). untested_moves d) c.deeds-deeds.ensures.value
