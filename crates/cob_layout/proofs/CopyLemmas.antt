-- Copies of nodes.
use Rattle.std.proofs.Common.{◌≡◌, ℕ, ◌+◌, ◌<◌, ◌≤◌, List, [], ◌∷◌, ◌++◌, length, get_or, drop, map, sym, ap, ◌∙◌}
use Rattle.std.proofs.lemmas.List.{append-nil, append_assoc, drop_all, drop_more, map-append}
use Rattle.cob_copybook_tree.specs.declared.node.Node.{Node}
use Rattle.cob_copybook_tree.specs.declared.node.Node.TheViews.{out-Node}
use Rattle.cob_copybook_tree.specs.Forests.{Forest, Tree, grown}
use Rattle.cob_copybook_tree.specs.Nodes.{Resolved, resolved_entry, node, forest}
use Rattle.cob_layout_places.proofs.ForestLemmas.{node_out}

-- an entry over copies of all its children is a copy
pub copy_is : (n m : Node) (children copies : List Node) (k : ℕ) → node m ≡ record { top = resolved_entry (out-Node n); beneath = forest copies }
    → map node copies ++ map node (drop k children) ≡ map node children → length children ≤ k → children ≡ (out-Node n).children.items → node m ≡ node n
copy_is n m children copies k is so_far end all =
    let none : map node copies ≡ map node copies ++ map node (drop k children)
    = sym (append-nil (map node copies)) ∙ ap (λ (ns : List Node). map node copies ++ map node ns) (sym (drop_all k children end)) in
    let beneath : forest copies ≡ forest (out-Node n).children.items = ap grown (none ∙ so_far ∙ ap (map node) all) in
    is ∙ ap (λ (f : Forest Resolved). record { top = resolved_entry (out-Node n); beneath = f }) beneath ∙ sym (node_out n)

-- behind copies of the children so far the next child's copy is one of its place
pub next_copied : (copies made children : List Node) (k : ℕ) (n m : Node) → k < length children → n ≡ get_or children k n → node m ≡ node n → made ≡ copies ++ m ∷ []
    → map node copies ++ map node (drop k children) ≡ map node children → map node made ++ map node (drop (k + 1) children) ≡ map node children
next_copied copies made children k n m lt is copy all so_far =
    let rest = map node (drop (k + 1) children) in
    let next : map node (drop k children) ≡ node m ∷ rest = ap (map node) (drop_more children k n lt) ∙ ap (λ (x : Node). node x ∷ rest) (sym is) ∙ ap (λ (t : Tree Resolved). t ∷ rest) (sym copy) in
    ap (λ (ns : List Node). map node ns ++ rest) all ∙ ap (λ (ts : List (Tree Resolved)). ts ++ rest) (map-append node copies (m ∷ []))
    ∙ append_assoc (map node copies) (node m ∷ []) rest ∙ ap (λ (ts : List (Tree Resolved)). map node copies ++ ts) (sym next) ∙ so_far
