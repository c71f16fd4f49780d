-- The entries of nodes.
use Rattle.std.proofs.Common.{◌≡◌, ℕ, ◌+◌, ◌<◌, List, length, get_or, drop, sym, ap, ◌∙◌}
use Rattle.std.proofs.lemmas.List.{at_drop_more}
use Rattle.cob_copybook_tree.specs.declared.node.Node.{Node}
use Rattle.cob_copybook_tree.specs.declared.node.Node.TheViews.{out-Node}
use Rattle.cob_copybook_tree.specs.declared.node.Node.TheFolds.{fold_out-Node}
use Rattle.cob_copybook_tree.specs.Forests.{AnEntry, Tree}
use Rattle.cob_copybook_tree.specs.Nodes.{Resolved, forest, node, node_step, resolved_entry, tree_of}
use Rattle.cob_move_names.specs.Pairing.{is_elementary_entry}
use Rattle.cob_move_names.specs.Pairs.{is_elementary}

pub node_out : (n : Node) → node n ≡ record { top = resolved_entry (out-Node n); beneath = forest (out-Node n).children.items }
node_out n = fold_out-Node (Tree Resolved) node_step n

-- whether the entry of a node is elementary
pub elementary_node : (n : Node) → is_elementary_entry (tree_of n) ≡ is_elementary (out-Node n).kind
elementary_node n = ap (λ (t : Tree Resolved). is_elementary t.top.kind) (node_out n)

-- the entries of the nodes from a place on
pub forest_at : (ns : List Node) (i : ℕ) (n : Node) → i < length ns → n ≡ get_or ns i n
    → forest (drop i ns) ≡ AnEntry (resolved_entry (out-Node n)) (forest (out-Node n).children.items) (forest (drop (i + 1) ns))
forest_at ns i n lt is = at_drop_more forest ns i n lt ∙ ap (λ (t : Tree Resolved). AnEntry t.top t.beneath (forest (drop (i + 1) ns))) (ap node (sym is) ∙ node_out n)
