use Rattle.std.proofs.Common.{◌≡◌, ◌++◌, ◌+◌, ◌∙◌, List, ℕ, sym, ap, drop, arith}
use Rattle.cob_copybook_names.specs.Listed.{texts}
use Rattle.cob_copybook_tree.specs.declared.node.Node.{Node}
use Rattle.cob_copybook_tree.specs.declared.node.Node.TheViews.{out-Node}
use Rattle.cob_copybook_tree.specs.Forests.{Forest, AnEntry}
use Rattle.cob_copybook_tree.specs.Nodes.{Resolved, forest, resolved_entry}
use Rattle.cob_move_names.proofs.NodeLemmas.{forest_at}
use Rattle.cob_move_names.specs.Pairs.{Subordinate, subordinates}
use Rattle.cob_move_names.specs.PlainPairs.{subordinates_listed}
use Rattle.cob_move_names.proofs.SubordinateLemmas.{step_kept}
use Rattle.cob_move_names.proofs.subordinate.+list_entries.Goals as goal

pub loop-entry-preserved : goal.loop-entry-preserved
loop-entry-preserved t c =
    let e : Resolved = resolved_entry (out-Node c.entry-item.result) in
    let children : Forest Resolved = forest c.as_slice.result.now in
    let more : Forest Resolved = forest (drop (c.loop-entry.entry-index + 1) c.args.entries.now) in
    let path : List (List ℕ) = texts c.args.between.now.value.items in
    let m : List Subordinate = subordinates_listed c.loop-entry.list.items in
    let at = forest_at c.args.entries.now c.loop-entry.entry-index c.entry-item.result (omega arith) c.entry-item.is in
    let here : forest (drop c.loop-entry.entry-index c.args.entries.now) ≡ AnEntry e children more = at ∙ ap (λ (ns : List Node). AnEntry e (forest ns) more) (sym c.as_slice.ensures.value) in
    step_kept (subordinates_listed c.args.list.now.items ++ subordinates path (forest c.args.entries.now)) m (subordinates_listed c.list_entry.new.list.items) (subordinates_listed c.list_entries.new.list.items)
    path _ e children more
    (c.loop-entry.invariant ∙ ap (λ (f : Forest Resolved). m ++ subordinates path f) here)
    (sym c.is_left_out.ensures ∙ c.if-is_left_out.false)
    c.in_ok-below.ensures
    c.in_ok-list_entry.ensures c.in_ok-list_entries.ensures
