use Rattle.std.proofs.Common.{◌≡◌, ◌+◌, ◌≤◌, ◌∷◌, List, ap, arith, length, refl, subst, sym, ℕ}
use Rattle.std.specs.List.{AllByRecursion}
use Rattle.cob_move_deeds.specs.Flows.{FlowSupport, IsFlow}
use Rattle.cob_move_deeds.specs.Prepared.{flow_support}
use Rattle.cob_move_deeds.specs.Rows.{IsRow, row_begins, row_ends, row_goes_on, row_moves}
use Rattle.cob_move_deeds.specs.declared.flow.Flow.{Flow}
use Rattle.cob_move_deeds.specs.declared.flow.Flow.TheVariants as flow
use Rattle.cob_move_deeds.proofs.FlowLemmas.{all_behind}
use Rattle.cob_move_deeds.proofs.ready.ReadyDeeds.row_from.Goals as goal

pub loop-flow-init : goal.loop-flow-init
loop-flow-init c = record { row = row_begins c.args.first c.args.flows.now refl refl; within = c.requires.first; each = c.requires.each; fewer = omega arith }

pub loop-flow-preserved-in-Moves : goal.loop-flow-preserved-in-Moves
loop-flow-preserved-in-Moves c =
    let on : FlowSupport = flow_support c.args.self.now in
    let fs : List Flow = c.args.flows.now in
    let to : ℕ = c.loop-flow.to in
    let more : List Flow = c.in-Some.more.now in
    let here : c.in-Moves.number ≡ to = omega (arith, c.if-number-to.false) in
    let row = subst (λ (f : Flow). IsRow c.args.bound c.args.last c.args.first fs to (f ∷ more)) c.in-Moves.is
    (subst (λ (gs : List Flow). IsRow c.args.bound c.args.last c.args.first fs to gs) c.in-Some.ensures.cases.0 c.loop-flow.invariant.row) in
    let each = subst (λ (gs : List Flow). AllByRecursion (IsFlow on) gs) c.in-Some.ensures.cases.0 c.loop-flow.invariant.each in record {
      row = row_moves to (c.in-Moves.number + 1) more (subst (λ (n : ℕ). IsRow c.args.bound c.args.last c.args.first fs to (flow.Moves n ∷ more)) here row) (omega (arith, here));
      within = subst (λ (f : Flow). IsFlow on f) c.in-Moves.is each.0;
      each = each.1;
      fewer = omega (arith, ap length c.in-Some.ensures.cases.0, c.loop-flow.invariant.fewer);
    }

pub returns-then-last-number : goal.returns-then-last-number
returns-then-last-number c =
    let on : FlowSupport = flow_support c.args.self.now in
    let fs : List Flow = c.args.flows.now in
    let to : ℕ = c.loop-flow.to in
    let more : List Flow = c.in-Some.more.now in
    let number : ℕ = c.in-Until.number in
    let skip : ℕ = c.in-Until.skip in
    let here : c.in-Until.own ≡ c.args.bound = omega (arith, c.if-own-bound.false) in
    let first = subst (λ (f : Flow). IsRow c.args.bound c.args.last c.args.first fs to (f ∷ more)) c.in-Until.is
    (subst (λ (gs : List Flow). IsRow c.args.bound c.args.last c.args.first fs to gs) c.in-Some.ensures.cases.0 c.loop-flow.invariant.row) in
    let row : IsRow c.args.bound c.args.last c.args.first fs to (flow.Until c.args.bound number skip ∷ more) =
    subst (λ (n : ℕ). IsRow c.args.bound c.args.last c.args.first fs to (flow.Until n number skip ∷ more)) here first in
    let each = subst (λ (gs : List Flow). AllByRecursion (IsFlow on) gs) c.in-Some.ensures.cases.0 c.loop-flow.invariant.each in
    record {
      row = row_ends to number skip more c.behind-left.result.now row (grind (arith, c.if-last-number.true)) c.behind-left.ensures.value;
      within = c.loop-flow.invariant.within;
      each = subst (λ (gs : List Flow). AllByRecursion (IsFlow on) gs) (sym c.behind-left.ensures.value) (all_behind (IsFlow on) skip more each.1);
      fewer = omega (arith, ap length c.in-Some.ensures.cases.0, c.loop-flow.invariant.fewer, c.behind-left.ensures.fewer);
    }

pub loop-flow-preserved : goal.loop-flow-preserved
loop-flow-preserved c =
    let on : FlowSupport = flow_support c.args.self.now in
    let fs : List Flow = c.args.flows.now in
    let to : ℕ = c.loop-flow.to in
    let more : List Flow = c.in-Some.more.now in
    let number : ℕ = c.in-Until.number in
    let skip : ℕ = c.in-Until.skip in
    let here : c.in-Until.own ≡ c.args.bound = omega (arith, c.if-own-bound.false) in
    let first = subst (λ (f : Flow). IsRow c.args.bound c.args.last c.args.first fs to (f ∷ more)) c.in-Until.is
    (subst (λ (gs : List Flow). IsRow c.args.bound c.args.last c.args.first fs to gs) c.in-Some.ensures.cases.0 c.loop-flow.invariant.row) in
    let row : IsRow c.args.bound c.args.last c.args.first fs to (flow.Until c.args.bound number skip ∷ more) =
    subst (λ (n : ℕ). IsRow c.args.bound c.args.last c.args.first fs to (flow.Until n number skip ∷ more)) here first in
    let each = subst (λ (gs : List Flow). AllByRecursion (IsFlow on) gs) c.in-Some.ensures.cases.0 c.loop-flow.invariant.each in
    record {
      row = row_goes_on to number skip more row (grind (arith, c.if-last-number.false));
      within = c.loop-flow.invariant.within;
      each = each.1;
      fewer = omega (arith, ap length c.in-Some.ensures.cases.0, c.loop-flow.invariant.fewer);
    }
