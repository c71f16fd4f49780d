use Rattle.std.proofs.Common.{◌≡◌, ◌<◌, [], ◌∷◌, List, get_or, length, map, refl, subst}
use Rattle.cob_move_data.specs.declared.operands.Operand.{Operand}
use Rattle.cob_layout_places.specs.declared.reference.Ref.{Ref}
use Rattle.cob_move_data.specs.Moves.{Records, operand_in, sender_by}
use Rattle.cob_move_apply.specs.Planned.{AreMore, records_between}
use Rattle.cob_move_apply.specs.Steps.{Gains, singles}
use Rattle.cob_move_apply.proofs.InLemmas.{in_single, move_with}
use Rattle.cob_move_apply.proofs.ListLemmas.{at, below, past}
use Rattle.cob_move_apply.proofs.PlanLemmas.{more_single, more_singles, single_all, single_more}
use Rattle.cob_move_apply.proofs.planning.push_singles.Goals as goal

pub push_single-requires-clause-part : goal.push_single-requires-clause-part
push_single-requires-clause-part c =
    in_single _ _ _ c.args.one.now c.index-receivers-first.result c.requires.at c.requires.legal
    (subst (λ (rs : List Ref). c.loop-first.first < length rs) c.as_slice-receivers.ensures.value c.loop-first-test.true)
    (subst (λ (rs : List Ref). c.index-receivers-first.result ≡ get_or rs c.loop-first.first c.index-receivers-first.result) c.as_slice-receivers.ensures.value c.index-receivers-first.is)
    refl c.from_ref.ensures.value

pub loop-first-preserved : goal.loop-first-preserved
loop-first-preserved c =
    let r : Records = records_between c.args.both.now in
    let os : List Operand = map (operand_in c.args.both.now.output.now) c.as_slice-receivers.result.now in
    let o : Operand = operand_in c.args.both.now.output.now c.index-receivers-first.result in
    let lt : c.loop-first.first < length os = below (operand_in c.args.both.now.output.now) c.as_slice-receivers.result.now c.loop-first.first c.loop-first-test.true in
    let is : o ≡ get_or os c.loop-first.first o = at (operand_in c.args.both.now.output.now) c.as_slice-receivers.result.now c.loop-first.first c.index-receivers-first.result c.loop-first-test.true c.index-receivers-first.is in record {
      gains = λ x. single_more x r c.args.given.now (sender_by x r c.args.one.now.sender) os c.loop-first.first o c.args.plan.now c.loop-first.plan c.push_single.new.plan lt is (c.loop-first.invariant.gains x)
          (subst (λ (rs : List Ref). Gains x r c.args.given.now (move_with x r c.args.one.now.sender rs ∷ []) c.loop-first.plan c.push_single.new.plan) c.from_ref.ensures.value (c.in_ok-push_single.ensures.gains x));
      more = λ x. more_single r (sender_by x r c.args.one.now.sender) os c.loop-first.first o c.args.plan.now.steps.items c.loop-first.plan.steps.items c.push_single.new.plan.steps.items lt is (c.loop-first.invariant.more x)
          (subst (λ (rs : List Ref). AreMore r (move_with x r c.args.one.now.sender rs ∷ []) c.loop-first.plan.steps.items c.push_single.new.plan.steps.items) c.from_ref.ensures.value (c.in_ok-push_single.ensures.more x));
    }

pub returns-clause-more : goal.returns-clause-more
returns-clause-more c = λ x.
    let r : Records = records_between c.args.both.now in
    subst (λ (rs : List Ref). AreMore r (singles (sender_by x r c.args.one.now.sender) (map (operand_in c.args.both.now.output.now) rs)) c.args.plan.now.steps.items c.loop-first.plan.steps.items) c.as_slice-receivers.ensures.value
    (more_singles r (sender_by x r c.args.one.now.sender) (map (operand_in c.args.both.now.output.now) c.as_slice-receivers.result.now) c.loop-first.first c.args.plan.now.steps.items c.loop-first.plan.steps.items
    (past (operand_in c.args.both.now.output.now) c.as_slice-receivers.result.now c.loop-first.first c.loop-first-test.false) (c.loop-first.invariant.more x))

pub returns-clause-gains : goal.returns-clause-gains
returns-clause-gains c = λ x.
    let r : Records = records_between c.args.both.now in
    subst (λ (rs : List Ref). Gains x r c.args.given.now (singles (sender_by x r c.args.one.now.sender) (map (operand_in c.args.both.now.output.now) rs)) c.args.plan.now c.loop-first.plan) c.as_slice-receivers.ensures.value
    (single_all x r c.args.given.now (sender_by x r c.args.one.now.sender) (map (operand_in c.args.both.now.output.now) c.as_slice-receivers.result.now) c.loop-first.first c.args.plan.now c.loop-first.plan
    (past (operand_in c.args.both.now.output.now) c.as_slice-receivers.result.now c.loop-first.first c.loop-first-test.false) (c.loop-first.invariant.gains x))
