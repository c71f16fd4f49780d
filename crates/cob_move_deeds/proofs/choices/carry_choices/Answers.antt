use Rattle.std.proofs.Common.{List, refl, subst, sym, ◌∙◌}
use Rattle.std.proofs.lemmas.Result.{err_from_is_err_and}
use Rattle.cob_move_data.specs.Moves.{Records}
use Rattle.cob_move_deeds.specs.Carrying.{AreCarriedTo, records_of_sides}
use Rattle.cob_move_deeds.specs.Flows.{FlowSupport}
use Rattle.cob_move_deeds.specs.Prepared.{flow_support}
use Rattle.cob_move_deeds.specs.declared.flow.Flow.{Flow}
use Rattle.cob_move_deeds.proofs.WalkLemmas.{walk_branch, walk_first, walk_lacks, walk_moves, walk_skip, walk_stops}
use Rattle.cob_move_deeds.proofs.choices.carry_choices.Goals as goal

pub loop-flow-init : goal.loop-flow-init
loop-flow-init c =
    let r : Records = records_of_sides c.args.sides.now in
    let on : FlowSupport = flow_support c.args.deeds.now in
    let all : List Flow = c.args.deeds.now.flows.items in record {
      so = subst (λ (gs : List Flow). AreCarriedTo r on all gs c.args.sides.now.input.now c.args.output.now c.args.output.now c.args.scratch.now c.args.scratch.now) (sym c.as_slice-rest.ensures.value)
          (walk_first r on all c.args.sides.now.input.now c.args.output.now c.args.scratch.now c.requires.prepared.flows.each c.requires.kept);
      output = refl;
    }

pub loop-flow-preserved-in-Moves : goal.loop-flow-preserved-in-Moves
loop-flow-preserved-in-Moves c =
    let r : Records = records_of_sides c.args.sides.now in
    let on : FlowSupport = flow_support c.args.deeds.now in
    let all : List Flow = c.args.deeds.now.flows.items in record {
      so = walk_moves r on all c.loop-flow.rest.now c.in-Some.more.now c.in-Some.flow.now c.in-Moves.number c.args.sides.now.input.now c.args.output.now c.loop-flow.output c.make_moves.new.output
          c.args.scratch.now c.loop-flow.scratch c.make_moves.new.scratch c.loop-flow.invariant.so c.in-Some.ensures.cases.0 c.in-Moves.is
          c.in_ok-make_moves-in-Moves.ensures.applied c.in_ok-make_moves-in-Moves.ensures.reads c.in_ok-make_moves-in-Moves.ensures.kept;
      output = c.make_moves.auto.output ∙ c.loop-flow.invariant.output;
    }

pub loop-flow-preserved-in-Where : goal.loop-flow-preserved-in-Where
loop-flow-preserved-in-Where c =
    let r : Records = records_of_sides c.args.sides.now in
    let on : FlowSupport = flow_support c.args.deeds.now in
    let all : List Flow = c.args.deeds.now.flows.items in record {
      so = walk_branch r on all c.loop-flow.rest.now c.in-Some.more.now c.branch_left-rest.result.now c.in-Some.flow.now c.in-Where.condition c.in-Where.holding c.in-Where.lacking c.in_ok-holds-in-Where.holds
          c.args.sides.now.input.now c.args.output.now c.loop-flow.output c.args.scratch.now c.loop-flow.scratch c.condition_says.new.scratch c.loop-flow.invariant.so c.in-Some.ensures.cases.0 c.in-Where.is
          c.in_ok-holds-in-Where.ensures.says c.in_ok-holds-in-Where.ensures.reads c.in_ok-holds-in-Where.ensures.kept c.branch_left-rest.ensures.value;
      output = c.loop-flow.invariant.output;
    }

pub loop-flow-preserved : goal.loop-flow-preserved
loop-flow-preserved c =
    let r : Records = records_of_sides c.args.sides.now in
    let on : FlowSupport = flow_support c.args.deeds.now in
    let all : List Flow = c.args.deeds.now.flows.items in record {
      so = walk_skip r on all c.loop-flow.rest.now c.in-Some.more.now c.behind-rest.result.now c.in-Some.flow.now c.in-Skip.count c.args.sides.now.input.now c.args.output.now c.loop-flow.output
          c.args.scratch.now c.loop-flow.scratch c.loop-flow.invariant.so c.in-Some.ensures.cases.0 c.in-Skip.is c.behind-rest.ensures.value;
      output = c.loop-flow.invariant.output;
    }

pub returns-in_err-make_moves-in-Moves-clause-stops : goal.returns-in_err-make_moves-in-Moves-clause-stops
returns-in_err-make_moves-in-Moves-clause-stops c =
    let r : Records = records_of_sides c.args.sides.now in
    let on : FlowSupport = flow_support c.args.deeds.now in
    let all : List Flow = c.args.deeds.now.flows.items in
    let p = err_from_is_err_and c.from_residual.result c.from_residual.ensures.1 in
    rw (p.1, p.2) (walk_stops r on all c.loop-flow.rest.now c.in-Some.more.now c.in-Some.flow.now c.in-Moves.number c.args.sides.now.input.now c.args.output.now c.loop-flow.output c.in_err-make_moves-in-Moves.field-0.0
    c.make_moves.new.output c.args.scratch.now c.loop-flow.scratch c.make_moves.new.scratch c.loop-flow.invariant.so c.in-Some.ensures.cases.0 c.in-Moves.is
    c.in_err-make_moves-in-Moves.ensures.applied c.in_err-make_moves-in-Moves.ensures.reads c.in_err-make_moves-in-Moves.ensures.kept)

pub returns-in_err-holds-in-Where-clause-stops : goal.returns-in_err-holds-in-Where-clause-stops
returns-in_err-holds-in-Where-clause-stops c =
    let r : Records = records_of_sides c.args.sides.now in
    let on : FlowSupport = flow_support c.args.deeds.now in
    let all : List Flow = c.args.deeds.now.flows.items in
    let p = err_from_is_err_and c.from_residual-in_err-holds-in-Where.result c.from_residual-in_err-holds-in-Where.ensures.1 in
    rw (p.1, p.2) (walk_lacks r on all c.loop-flow.rest.now c.in-Some.more.now c.in-Some.flow.now c.in-Where.condition c.in-Where.holding c.in-Where.lacking c.args.sides.now.input.now c.args.output.now c.loop-flow.output
    c.in_err-holds-in-Where.field-0.0 c.args.scratch.now c.loop-flow.scratch c.condition_says.new.scratch c.loop-flow.invariant.so c.in-Some.ensures.cases.0 c.in-Where.is
    c.in_err-holds-in-Where.ensures.says c.in_err-holds-in-Where.ensures.reads c.in_err-holds-in-Where.ensures.kept)
