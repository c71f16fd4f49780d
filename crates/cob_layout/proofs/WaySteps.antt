-- The entries beneath an entry, one after another, and what is held of them.
use Rattle.std.proofs.Common.{◌≡◌, ℕ, ◌+◌, ◌<◌, List, ◌∷◌, ◌++◌, length, get_or, sym, ap, subst, ◌∙◌, arith, append-nil}
use Rattle.cob_copybook_tree.specs.declared.node.Node.{Node}
use Rattle.cob_copybook_tree.specs.Forests.{Forest, entries_in}
use Rattle.cob_copybook_tree.specs.Nodes.{Resolved, node, tree_of}
use Rattle.cob_layout_places.proofs.ForestLemmas.{left, left_is}
use Rattle.cob_layout_places.proofs.NeedLemmas.{AreUpTo}
use Rattle.cob_layout.specs.Sound.{AreNested}
use Rattle.cob_layout.specs.Ways.{Held, held_in, own_table}

-- what is held of an entry and of those behind it
pub ways_next : (over : List ℕ) (children : List Node) (k : ℕ) (n : Node) → k < length children → n ≡ get_or children k n
    → held_in over (tree_of n) ++ held_in over (left children (k + 1)) ≡ held_in over (left children k)
ways_next over children k n lt is =
    let own = over ++ own_table (node n).top.occurs (node n).top.number in
    let kids = (node n).beneath in
    let more = left children (k + 1) in
    let first : Held = record { tables = own; end = (node n).top.number + 1 + entries_in kids } in
    ap (λ (hs : List Held). first ∷ (hs ++ held_in over more)) (append-nil (held_in own kids))
    ∙ sym (ap (λ (f : Forest Resolved). held_in over f) (left_is children k n lt is))

-- those behind it are numbered up to the same end
pub up_to_next : (end : ℕ) (children : List Node) (k : ℕ) (n : Node) → k < length children → n ≡ get_or children k n → AreUpTo end (left children k) → AreUpTo end (left children (k + 1))
up_to_next end children k n lt is are =
    let u = subst (AreUpTo end) (left_is children k n lt is) are in
    record { first = u.first + 1 + entries_in (node n).beneath; numbered = u.numbered.2; ends = omega (arith, u.ends) }

-- and stand beneath as many tables
pub nested_next : (tables : ℕ) (children : List Node) (k : ℕ) (n : Node) → k < length children → n ≡ get_or children k n → AreNested tables (left children k) → AreNested tables (left children (k + 1))
nested_next tables children k n lt is are =
    let u = subst (AreNested tables) (left_is children k n lt is) are in
    u.2
