use Rattle.std.proofs.Common.{◌≡◌, ℕ, ◌+◌, ◌-◌, List, [], ◌∷◌, ◌++◌, ap, drop, length, ◌∙◌}
use Rattle.cob_move_deeds.specs.declared.flow.Flow.{Flow}
use Rattle.cob_move_deeds.specs.declared.flow.Flow.TheVariants as flow
use Rattle.cob_move.specs.DeedsRead.{linked_branches, taken_branches}
use Rattle.cob_move.proofs.BranchLemmas.{branches_left, branches_same}
use Rattle.cob_move.proofs.linking.link_branches.Goals as goal

pub loop-branch-preserved : goal.loop-branch-preserved
loop-branch-preserved c =
    let so = c.loop-branch.invariant.left in
    let long = c.len-holding.ensures ∙ c.branch-item.result.flows.ok.0 in
    let branches = c.args.branches.now in
    let b = c.branch-item.result in
    let other = c.args.other.now in
    let flows = c.loop-branch.flows.items in
    let made = c.in_ok-push-2.ensures.items
    ∙ ap (λ (t : List Flow). t ++ flow.Skip (c.loop-branch.left - (c.len-holding.result + 2)) ∷ []) (c.in_ok-extend_from_slice.ensures.items ∙ ap (λ (t : List Flow). t ++ c.as_slice.result.now) c.in_ok-push.ensures.items
    ∙ ap (λ (t : List Flow). (flows ++ flow.Where b.condition c.len-holding.result (c.loop-branch.left - (c.len-holding.result + 2)) ∷ []) ++ t) c.as_slice.ensures.value)
    ∙ ap (λ (n : ℕ). ((flows ++ flow.Where b.condition n (c.loop-branch.left - (n + 2)) ∷ []) ++ b.flows.items) ++ flow.Skip (c.loop-branch.left - (n + 2)) ∷ []) long in record {
      left = ap (λ (n : ℕ). c.loop-branch.left - (n + 2)) long ∙ branches_left branches c.loop-branch.branch-index b other c.loop-branch.left c.loop-branch-test.true c.branch-item.is so;
      same = branches_same branches c.loop-branch.branch-index b other c.loop-branch.left flows (c.args.flows.now.items ++ linked_branches (taken_branches branches) other) c.push-in-loop-branch.new.self.items c.loop-branch-test.true c.branch-item.is so
          c.loop-branch.invariant.same made;
    }
