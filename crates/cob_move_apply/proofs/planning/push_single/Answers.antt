use Rattle.std.proofs.Common.{◌≡◌, [], ◌∷◌, List, get_or, refl, subst, sym}
use Rattle.std.proofs.lemmas.Result.{on_ok_weaker}
use Rattle.cob_layout_places.specs.declared.reference.Ref.{Ref}
use Rattle.cob_move_data.specs.Moves.{Records, operand_in, sender_by}
use Rattle.cob_move_apply.specs.Planned.{AreMore, AreReadyAs, copied_by, meant, records_between}
use Rattle.cob_move_apply.specs.declared.step.Plan.{Plan}
use Rattle.cob_move_apply.proofs.InLemmas.{move_with, one_of}
use Rattle.cob_move_apply.proofs.JoinLemmas.{more_alone}
use Rattle.cob_move_apply.proofs.PlanLemmas.{gains_more}
use Rattle.cob_move_apply.proofs.planning.push_single.Goals as goal

pub push_ready-requires-clause-ready : goal.push_ready-requires-clause-ready
push_ready-requires-clause-ready c =
    let r : Records = records_between c.args.both.now in
    let q : Ref = get_or c.args.part.now.receivers.now 0 c.index-part-0.result in
    let alone_is : c.args.part.now.receivers.now ≡ q ∷ [] = one_of c.args.part.now.receivers.now c.index-part-0.result c.requires.one in
    subst (λ (rs : List Ref). AreReadyAs c.args.both.now c.ready_of.new.prepared c.ready_of.new.pictured c.in_ok-ready.ready (λ x. move_with x r c.args.part.now.sender.now rs ∷ [])) (sym alone_is) c.in_ok-ready.ensures.ready

pub returns-clause-gains : goal.returns-clause-gains
returns-clause-gains c =
    let r : Records = records_between c.args.both.now in
    let mid : Plan = record { steps = c.args.plan.now.steps; bases = c.args.plan.now.bases; prepared = c.ready_of.new.prepared; pictured = c.ready_of.new.pictured; constants = c.args.plan.now.constants; located = c.args.plan.now.located; located_constants = c.args.plan.now.located_constants; within = c.args.plan.now.within } in
    on_ok_weaker c.push_ready.result
    (λ so x. gains_more x r c.args.given.now (meant x r c.args.part.now ∷ []) c.args.plan.now mid c.push_ready.new.plan refl refl c.in_ok-ready.ensures.prepared c.in_ok-ready.ensures.pictured refl refl refl refl (so x))
    c.push_ready.ensures.gains

pub returns-clause-more : goal.returns-clause-more
returns-clause-more c =
    let r : Records = records_between c.args.both.now in
    let q : Ref = get_or c.args.part.now.receivers.now 0 c.index-part-0.result in
    let alone_is : c.args.part.now.receivers.now ≡ q ∷ [] = one_of c.args.part.now.receivers.now c.index-part-0.result c.requires.one in
    on_ok_weaker c.push_ready.result
    (λ h x. subst (λ (rs : List Ref). AreMore r (move_with x r c.args.part.now.sender.now rs ∷ []) c.args.plan.now.steps.items c.push_ready.new.plan.steps.items) (sym alone_is)
    (more_alone r (sender_by x r c.args.part.now.sender.now) (operand_in c.args.both.now.output.now q) (copied_by c.in_ok-ready.ready) c.args.plan.now.steps.items c.push_ready.new.plan.steps.items (c.in_ok-ready.ensures.copies x) h))
    c.push_ready.ensures.added
