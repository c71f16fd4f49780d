use Rattle.std.proofs.Common.{◌∙◌, [], ◌∷◌, List, ap, arith, length, map, refl, subst, sym}
use Rattle.std.proofs.lemmas.List.{length-map}
use Rattle.std.proofs.lemmas.Result.{on_ok_weaker}
use Rattle.cob_layout_places.specs.declared.reference.Ref.{Ref}
use Rattle.cob_move_data.specs.Moves.{IsMove, Records, move_by, operand_in, sender, sender_by}
use Rattle.cob_move_apply.specs.Planned.{records_between}
use Rattle.cob_move_apply.specs.Steps.{Gains, MayBeCut, one_by_one}
use Rattle.cob_move_apply.proofs.CutLemmas.{cut_selves, cut_singles}
use Rattle.cob_move_apply.proofs.InLemmas.{in_whole, move_with, none_left, some_left}
use Rattle.cob_move_apply.proofs.JoinLemmas.{more_empty, more_unsteady, more_whole}
use Rattle.cob_move_apply.proofs.planning.push_move.Goals.{else-may_be_cut-via-then-may_be_cut+else-not-is_empty, else-may_be_cut-via-else-may_be_cut}
use Rattle.cob_move_apply.proofs.planning.push_move.Goals as goal

pub may_be_cut-requires : goal.may_be_cut-requires
may_be_cut-requires c =
    let r : Records = records_between c.args.both.now in record {
      legal = subst (λ (rs : List Ref). IsMove r (record { sender = sender r c.args.one.now.sender; receivers = map (operand_in r.output) rs })) (sym c.as_slice-receivers.ensures.value) c.requires.legal;
    }

pub returns-then-not-is_empty-clause-gains : goal.returns-then-not-is_empty-clause-gains
returns-then-not-is_empty-clause-gains c =
    let r : Records = records_between c.args.both.now in
    on_ok_weaker c.push_singles.result
    (λ so x. (
      one_by_one (move_by x r c.args.one.now),
      cut_singles r (move_by x r c.args.one.now)
          (subst (λ (rs : List Ref). MayBeCut r (sender_by x r c.args.one.now.sender) (map (operand_in r.output) rs)) c.as_slice-receivers.ensures.value (c.may_be_cut.ensures.yes x c.if-may_be_cut.true))
          (some_left (operand_in c.args.both.now.output.now) c.args.one.now.receivers.items _ (sym c.is_empty.ensures ∙ c.if-not-is_empty.true) (omega (arith, c.args.one.now.receivers.ok.0))),
      so x,
    ))
    c.push_singles.ensures.gains

pub returns-then-not-is_empty-clause-more : goal.returns-then-not-is_empty-clause-more
returns-then-not-is_empty-clause-more c =
    let r : Records = records_between c.args.both.now in
    on_ok_weaker c.push_singles.result
    (λ so x. more_whole r (move_by x r c.args.one.now) c.args.plan.now.steps.items c.push_singles.new.plan.steps.items
    (some_left (operand_in c.args.both.now.output.now) c.args.one.now.receivers.items _ (sym c.is_empty.ensures ∙ c.if-not-is_empty.true) (omega (arith, c.args.one.now.receivers.ok.0)))
    (so x))
    c.push_singles.ensures.more

pub push_part-requires : goal.push_part-requires
push_part-requires c = record { part = in_whole _ _ _ c.args.one.now c.requires.at c.requires.legal refl refl c.as_slice-receivers.ensures.value }

pub returns-clause-gains : goal.returns-clause-gains
returns-clause-gains c =
    let r : Records = records_between c.args.both.now in
    on_ok_weaker c.push_part.result
    (λ so x. (
      move_by x r c.args.one.now ∷ [],
      cut_selves r (move_by x r c.args.one.now ∷ []),
      subst (λ (rs : List Ref). Gains x r c.args.given.now (move_with x r c.args.one.now.sender rs ∷ []) c.args.plan.now c.push_part.new.plan) c.as_slice-receivers.ensures.value (so x),
    ))
    c.push_part.ensures.gains

pub returns-clause-more : goal.returns-clause-more
returns-clause-more c =
    let r : Records = records_between c.args.both.now in
    elim c.else-may_be_cut.branch [
      | else-may_be_cut-via-then-may_be_cut+else-not-is_empty w ↦
          on_ok_weaker c.push_part.result
          (λ h x. let (p, added, count) = h in
          more_empty r (move_by x r c.args.one.now) p c.args.plan.now.steps.items c.push_part.new.plan.steps.items
          (none_left (operand_in c.args.both.now.output.now) c.args.one.now.receivers.items _ (sym w.is_empty.ensures ∙ w.if-not-is_empty.false) (omega (arith, c.args.one.now.receivers.ok.0)))
          added (count ∙ ap length c.as_slice-receivers.ensures.value ∙ sym (length-map c.args.one.now.receivers.items (operand_in c.args.both.now.output.now))))
          c.push_part.ensures.added
      | else-may_be_cut-via-else-may_be_cut w ↦
          on_ok_weaker c.push_part.result
          (λ h x. let (p, added, count) = h in
          more_unsteady r (move_by x r c.args.one.now) p c.args.plan.now.steps.items c.push_part.new.plan.steps.items (c.may_be_cut.ensures.only x r w.if-may_be_cut.false)
          added (count ∙ ap length c.as_slice-receivers.ensures.value ∙ sym (length-map c.args.one.now.receivers.items (operand_in c.args.both.now.output.now))))
          c.push_part.ensures.added
    ]
