use Rattle.std.proofs.Common.{List, arith, length, subst, sym}
use Rattle.std.specs.List.{AllByRecursion}
use Rattle.cob_move_deeds.specs.Flows.{FlowSupport}
use Rattle.cob_move_deeds.specs.Prepared.{flow_support}
use Rattle.cob_move_deeds.specs.Told.{MovesAlone}
use Rattle.cob_move_deeds.specs.declared.flow.Flow.{Flow}
use Rattle.cob_move_deeds.proofs.ToldLemmas.{move_straight, straight_move}
use Rattle.cob_move_deeds.proofs.ready.ReadyDeeds.is_straight.Goals as goal

pub returns : goal.returns
returns c = λ r.
    let on : FlowSupport = flow_support c.args.self.now in
    let fs : List Flow = c.args.self.now.flows.items in
    let (q, prepared) = c.requires.prepared in
    let same = c.as_slice.ensures.value in (
      λ yes_of. move_straight r on (length fs) fs (subst (λ (gs : List Flow). AllByRecursion MovesAlone gs) same (c.all_move.ensures.0 yes_of)),
      λ straight. c.all_move.ensures.1 (subst (λ (gs : List Flow). AllByRecursion MovesAlone gs) (sym same) (straight_move r on (length fs) fs (omega arith) prepared.flows.each prepared.flows.nested straight)),
    )
