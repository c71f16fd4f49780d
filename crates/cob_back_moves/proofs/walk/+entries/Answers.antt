use Rattle.std.proofs.Common.{◌≡◌, ◌+◌, ◌++◌, ◌∷◌, [], length, subst, ◌∙◌, arith, rules}
use Rattle.cob_copybook_tree.specs.Forests.{Forest}
use Rattle.cob_copybook_tree.specs.Nodes.{Resolved, forest, node}
use Rattle.cob_layout_places.specs.Lengths.{AreLeaves}
use Rattle.cob_layout.specs.Sound.{AreNested}
use Rattle.cob_layout_places.proofs.ForestLemmas.{left, left_is}
use Rattle.cob_back_moves.specs.Brought.{IsFine}
use Rattle.cob_back_moves.proofs.WalkLemmas.{greatest_is, group_node, if_none_weaker, if_some_weaker, lost_group_node, lost_once_node, lost_table_node, more_below, once_node, popped, row_fine, row_lost, row_within, table_node}
use Rattle.cob_back_moves.proofs.walk.+entries.Goals as goal

pub lost_in_element-returns-in-Item-clause-fine : goal.lost_in_element-returns-in-Item-clause-fine
lost_in_element-returns-in-Item-clause-fine t c = rw c.as_slice.ensures.value at c.lost_item.ensures.fine

pub lost_in_element-returns-in-Item-clause-lost : goal.lost_in_element-returns-in-Item-clause-lost
lost_in_element-returns-in-Item-clause-lost t c = rw c.as_slice.ensures.value at c.lost_item.ensures.lost

pub lost_in_element-returns-in-Group-clause-fine : goal.lost_in_element-returns-in-Group-clause-fine
lost_in_element-returns-in-Group-clause-fine t c =
    if_none_weaker c.lost_in_entries.result (group_node (IsFine c.args.there.now c.args.back.now) c.args.entry.now c.args.subscripts.now.items c.in-Group.is) (rw c.as_slice-in-Group.ensures.value at c.lost_in_entries.ensures.fine)

pub lost_in_element-returns-in-Group-clause-lost : goal.lost_in_element-returns-in-Group-clause-lost
lost_in_element-returns-in-Group-clause-lost t c =
    if_some_weaker c.lost_in_entries.result (λ r. lost_group_node (IsFine c.args.there.now c.args.back.now) c.args.entry.now c.args.subscripts.now.items r) (rw c.as_slice-in-Group.ensures.value at c.lost_in_entries.ensures.lost)

pub lost_in_entry-returns-then-not-is_table-clause-fine : goal.lost_in_entry-returns-then-not-is_table-clause-fine
lost_in_entry-returns-then-not-is_table-clause-fine t c =
    if_none_weaker c.lost_in_element.result (once_node (IsFine c.args.there.now c.args.back.now) c.args.entry.now c.args.subscripts.now.items (search rules)) c.lost_in_element.ensures.fine

pub lost_in_entry-returns-then-not-is_table-clause-lost : goal.lost_in_entry-returns-then-not-is_table-clause-lost
lost_in_entry-returns-then-not-is_table-clause-lost t c =
    if_some_weaker c.lost_in_element.result (λ r. lost_once_node (IsFine c.args.there.now c.args.back.now) c.args.entry.now c.args.subscripts.now.items r (search rules)) c.lost_in_element.ensures.lost

pub lost_in_entry-returns-in-Some-clause-lost : goal.lost_in_entry-returns-in-Some-clause-lost
lost_in_entry-returns-in-Some-clause-lost t c =
    let pushed : c.push.new.self.items ≡ c.args.subscripts.now.items ++ (c.loop-done.done + 1) ∷ [] = rw c.loop-done.invariant.same at c.push.ensures.items in
    lost_table_node (IsFine c.args.there.now c.args.back.now) c.args.entry.now c.args.subscripts.now.items (c.loop-done.done + 1) c.in-Some.number (search rules) (omega arith)
    (rw (greatest_is c.args.entry.now, ← c.most-most.ensures) (omega arith)) (rw pushed at c.in-Some.ensures.lost)

pub lost_in_entry-loop-done-preserved : goal.lost_in_entry-loop-done-preserved
lost_in_entry-loop-done-preserved t c =
    let pushed : c.push.new.self.items ≡ c.args.subscripts.now.items ++ (c.loop-done.done + 1) ∷ [] = rw c.loop-done.invariant.same at c.push.ensures.items in
    let fine = rw pushed at c.in_default.ensures.fine in
    let left_over : c.lost_in_element-lost.new.subscripts.items ≡ c.args.subscripts.now.items ++ (c.loop-done.done + 1) ∷ [] = c.lost_in_element-lost.ensures.same ∙ pushed in
    record {
      same = popped c.args.subscripts.now.items c.lost_in_element-lost.new.subscripts.items c.pop.new.self.items (c.loop-done.done + 1) (length c.lost_in_element-lost.new.subscripts.items) left_over (search rules) c.pop.ensures.rest;
      fine = more_below (IsFine c.args.there.now c.args.back.now) (node c.args.entry.now).top (node c.args.entry.now).beneath c.args.subscripts.now.items (c.loop-done.done + 1) c.loop-done.invariant.fine fine;
    }

pub lost_in_entry-returns-clause-fine : goal.lost_in_entry-returns-clause-fine
lost_in_entry-returns-clause-fine t c =
    table_node (IsFine c.args.there.now c.args.back.now) c.args.entry.now c.args.subscripts.now.items (c.loop-done.done + 1) (search rules) (rw (greatest_is c.args.entry.now, ← c.most-most.ensures) (omega arith)) c.loop-done.invariant.fine

pub lost_in_entries-returns-in-Some-clause-lost : goal.lost_in_entries-returns-in-Some-clause-lost
lost_in_entries-returns-in-Some-clause-lost t c =
    let n = c.entry-item.result in
    let now = left_is c.args.entries.now c.loop-entry.entry-index n c.loop-entry-test.true c.entry-item.is in
    row_lost (IsFine c.args.there.now c.args.back.now) (left c.args.entries.now c.loop-entry.entry-index) (left c.args.entries.now (c.loop-entry.entry-index + 1)) (forest c.args.entries.now) (node n).top (node n).beneath c.args.subscripts.now.items c.in-Some.number
    now c.loop-entry.invariant.within (rw c.loop-entry.invariant.same at c.in-Some.ensures.lost)

pub lost_in_entries-loop-entry-preserved : goal.lost_in_entries-loop-entry-preserved
lost_in_entries-loop-entry-preserved t c =
    let n = c.entry-item.result in
    let rest : Forest Resolved = left c.args.entries.now c.loop-entry.entry-index in
    let after : Forest Resolved = left c.args.entries.now (c.loop-entry.entry-index + 1) in
    let now = left_is c.args.entries.now c.loop-entry.entry-index n c.loop-entry-test.true c.entry-item.is in
    let fine = rw c.loop-entry.invariant.same at c.in_default.ensures.fine in
    let nested = subst (λ (f : Forest Resolved). AreNested (length c.args.subscripts.now.items) f) now c.loop-entry.invariant.nested in
    let leaves = subst (λ (f : Forest Resolved). AreLeaves f) now c.loop-entry.invariant.leaves in
    record {
      nested = nested.2;
      leaves = leaves.2;
      same = search rules;
      goes = λ all. c.loop-entry.invariant.goes (row_fine (IsFine c.args.there.now c.args.back.now) rest after (node n).top (node n).beneath c.args.subscripts.now.items now fine all);
      within = row_within rest after (forest c.args.entries.now) (node n).top (node n).beneath now c.loop-entry.invariant.within;
    }
