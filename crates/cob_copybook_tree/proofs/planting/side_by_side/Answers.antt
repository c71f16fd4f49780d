use Rattle.std.proofs.Common.{List, subst, ◌∙◌}
use Rattle.cob_copybook_tree.specs.declared.branch.Branch.{Branch}
use Rattle.cob_copybook_tree.specs.Forests.{IsTree}
use Rattle.cob_copybook_tree.specs.Branches.{forest_of, level_of}
use Rattle.cob_copybook_tree.proofs.BranchLemmas.{branch_roll, planted_flat, planted_tree}
use Rattle.cob_copybook_tree.proofs.planting.side_by_side.Goals as goal

pub loop-entry-preserved : goal.loop-entry-preserved
loop-entry-preserved c =
    let b = branch_roll (record { entry = c.in-Some.entry; children = c.in_ok-children.children }) in
    record {
      entries = c.loop-entry.invariant.entries ∙ rw (c.in-Some.ensures.items, c.in_ok-children.ensures.parts, c.in_ok-push_front.ensures.items) (planted_flat c.pop.new.self.items c.in-Some.entry c.in_ok-children.children.items c.taken.new.pending.items _ b);
      tree = rw c.in_ok-push_front.ensures.items (planted_tree c.in-Some.entry c.in_ok-children.children.items c.taken.new.pending.items _ b (subst (λ (bs : List Branch). IsTree level_of (forest_of bs)) c.in_ok-children.ensures.parts c.loop-entry.invariant.tree) c.in_ok-children.ensures.deeper c.in_ok-children.ensures.other);
    }
