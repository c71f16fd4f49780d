-- The trees of a list of nodes.
use Rattle.std.proofs.Common.{◌≡◌, ℕ, ◌+◌, ◌-◌, ◌<◌, ◌≤◌, List, [], ◌∷◌, ◌++◌, length, take, drop, get_or, map, sym, ap, ◌∙◌, arith}
use Rattle.std.proofs.lemmas.List.{at_drop_more, take_more, drop_more, get_or-drop, map-append, length-drop}
use Rattle.cob_copybook_tree.specs.declared.node.Node.{Node}
use Rattle.cob_copybook_tree.specs.declared.node.Node.TheViews.{out-Node, size-Node, size_is-Node}
use denote.Param.Weighed as weighed
use Rattle.cob_copybook_tree.specs.declared.node.Node.TheFolds.{fold_out-Node}
use Rattle.cob_copybook_tree.specs.Forests.{AnEntry, Tree}
use Rattle.cob_copybook_tree.specs.Nodes.{Resolved, resolved_entry, node, node_step, forest}

-- a node is its entry, and those beneath it
pub node_out : (n : Node) → node n ≡ record { top = resolved_entry (out-Node n); beneath = forest (out-Node n).children.items }
node_out n = fold_out-Node (Tree Resolved) node_step n

pub beneath_out : (n : Node) → (node n).beneath ≡ forest (out-Node n).children.items
beneath_out n = ap (λ (t : Tree Resolved). t.beneath) (node_out n)

-- the nodes from a place on
pub forest_at : (ns : List Node) (i : ℕ) (n : Node) → i < length ns → n ≡ get_or ns i n → forest (drop i ns) ≡ AnEntry (node n).top (node n).beneath (forest (drop (i + 1) ns))
forest_at ns i n lt is = at_drop_more forest ns i n lt ∙ ap (λ (m : Node). forest (m ∷ drop (i + 1) ns)) (sym is)

-- the nodes from one place up to another
abbrev pub part : ℕ → ℕ → List Node → List Node
part start i ns = take (i - start) (drop start ns)

pub part_more : (ns : List Node) (start i : ℕ) (n : Node) → start ≤ i → i < length ns → n ≡ get_or ns i n → map node (part start (i + 1) ns) ≡ map node (part start i ns) ++ node n ∷ []
part_more ns start i n le lt is =
    let k : i + 1 - start ≡ i - start + 1 = omega (arith, le) in
    let at : get_or (drop start ns) (i - start) n ≡ n = get_or-drop start ns (i - start) n ∙ ap (λ (j : ℕ). get_or ns j n) (omega (arith, le)) ∙ sym is in
    let more : take (i - start + 1) (drop start ns) ≡ take (i - start) (drop start ns) ++ get_or (drop start ns) (i - start) n ∷ [] = take_more (drop start ns) (i - start) n (omega (arith, le, lt, length-drop start ns)) in
    ap (λ (j : ℕ). map node (take j (drop start ns))) k
    ∙ ap (λ (xs : List Node). map node xs) (more ∙ ap (λ (m : Node). take (i - start) (drop start ns) ++ m ∷ []) at)
    ∙ map-append node (part start i ns) (n ∷ [])

pub part_one : (ns : List Node) (i : ℕ) (n : Node) → i < length ns → n ≡ get_or ns i n → map node (part i (i + 1) ns) ≡ node n ∷ []
part_one ns i n lt is =
    let k : i + 1 - i ≡ 1 = omega arith in
    ap (λ (j : ℕ). map node (take j (drop i ns))) k ∙ ap (λ (xs : List Node). map node (take 1 xs)) (drop_more ns i n lt) ∙ ap (λ (m : Node). node m ∷ []) (sym is)

-- how many levels nodes have
abbrev pub depth : List Node → ℕ
depth ns = weighed.most size-Node ns

-- those beneath a node have fewer than the list that it is in
pub less_deep : (ns children : List Node) (i : ℕ) (n : Node) → i < length ns → n ≡ get_or ns i n → children ≡ (out-Node n).children.items → depth children < depth ns
less_deep ns children i n lt is beneath =
    let own : depth children < size-Node n = omega (arith, size_is-Node n, ap depth beneath) in
    let among : size-Node n ≤ depth ns = omega (arith, weighed.at_most size-Node ns i n lt, ap size-Node is) in
    omega (arith, own, among)
