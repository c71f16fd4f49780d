use Rattle.std.proofs.Common.{◌≡◌, ◌∙◌, ◌++◌, List, Option, drop, length, subst, sym, take}
use Rattle.std.proofs.lemmas.List.{take_at}
use Rattle.std.specs.List.{AllByRecursion}
use Rattle.cob_move_deeds.specs.Flows.{IsFlow}
use Rattle.cob_move_deeds.specs.Prepared.{flow_support}
use Rattle.cob_move_deeds.specs.Steady.{AreSteady}
use Rattle.cob_move_deeds.specs.declared.flow.Flow.{Flow}
use Rattle.cob_move_deeds.specs.declared.steady.Stretch.{Stretch}
use Rattle.cob_move_deeds.proofs.ready.ReadyDeeds.noted.Goals as goal

pub loop-flow-preserved : goal.loop-flow-preserved
loop-flow-preserved c =
    let d = c.args.self.now in
    let now = c.note.new.noted in
    let held = c.loop-flow.noted in
    let each = subst (λ (fs : List Flow). AllByRecursion (IsFlow (flow_support d)) fs) c.in-Some.ensures.cases.0 c.loop-flow.invariant.each in
    let written : take held.len (now ++ drop (length now) held.items) ≡ now = take_at now _ held.len (c.note.auto.noted ∙ c.deref_mut.ensures.len) in record {
      steady = λ r same prepared.
          subst (λ (ns : List (Option Stretch)). AreSteady r d.moves d.bounds.items ns) (sym written)
          (c.note.ensures r same prepared (subst (λ (ns : List (Option Stretch)). AreSteady r d.moves d.bounds.items ns) (sym c.deref_mut.ensures.value) (c.loop-flow.invariant.steady r same prepared)));
      each = each.1;
    }
