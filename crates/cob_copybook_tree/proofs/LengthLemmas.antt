-- Lengths of which a greater one counts as the greatest.
use Rattle.std.proofs.Common.{◌≡◌, ℕ, zero, suc, ◌+◌, ◌*◌, ◌<◌, min, true, false, List, length, drop, get_or, Option, None, Some, refl, sym, ap, ◌∙◌, arith}
use Rattle.std.specs.Option.{is_some}
use Rattle.cob_copybook_tree.specs.declared.node.Node.{Node}
use Rattle.cob_copybook_tree.specs.declared.node.Node.TheViews.{out-Node}
use Rattle.cob_copybook_tree.specs.declared.node.Kind.TheVariants.{Group}
use Rattle.cob_copybook_tree.specs.Forests.{Tree}
use Rattle.cob_copybook_tree.specs.Nodes.{node, forest, Resolved}
use Rattle.cob_copybook_tree.specs.Lengths.{greatest_number, greatest_number_by, own_length, sum_of, element_length, whole_length}
use Rattle.cob_copybook_tree.proofs.NodeLemmas.{node_out, forest_at}

-- a length that counts as the greatest does so as often as it stands
product_capped : (a b m : ℕ) → min (a * min b m) m ≡ min (a * b) m
product_capped zero b m = omega arith
product_capped (suc a) b m = let ih = product_capped a b m in omega (arith, ih)

-- and as a part of a sum
sum_capped : (a b c d m : ℕ) → b ≡ min c m → min (min (a + b) m + d) m ≡ min (a + (c + d)) m
sum_capped a b c d m is = omega (arith, is)

room_taken : (o : Option (List ℕ)) (n : ℕ) → is_some o ≡ false → own_length o n ≡ n
room_taken None n e = refl
room_taken (Some area) n e = absurd cc

no_room : (o : Option (List ℕ)) (n : ℕ) → is_some o ≡ true → own_length o n ≡ 0
no_room None n e = absurd cc
no_room (Some area) n e = refl

-- the length of a group
pub group_length : (n : Node) → (out-Node n).kind ≡ Group → element_length greatest_number (node n).top (node n).beneath ≡ sum_of greatest_number (forest (out-Node n).children.items)
group_length n is = ap (λ (t : Tree Resolved). element_length greatest_number t.top t.beneath) (node_out n) ∙ rw is refl

-- the length of all elements, by that of one
pub all_elements : (n : Node) (times part all m : ℕ) → times ≡ greatest_number_by (out-Node n).occurs → part ≡ min (element_length greatest_number (node n).top (node n).beneath) m → all ≡ min (times * part) m
    → all ≡ min (whole_length greatest_number (node n).top (node n).beneath) m
all_elements n times part all m is_times is_part is =
    let one = element_length greatest_number (node n).top (node n).beneath in
    is
    ∙ rw (is_times, is_part) (product_capped (greatest_number_by (out-Node n).occurs) one m)
    ∙ ap (λ (t : Tree Resolved). min (greatest_number t.top * one) m) (sym (node_out n))

-- the lengths of the nodes from a place on
sum_at : (ns : List Node) (i : ℕ) (n : Node) → i < length ns → n ≡ get_or ns i n
    → sum_of greatest_number (forest (drop i ns)) ≡ own_length (out-Node n).redefines (whole_length greatest_number (node n).top (node n).beneath) + sum_of greatest_number (forest (drop (i + 1) ns))
sum_at ns i n lt is =
    ap (λ f. sum_of greatest_number f) (forest_at ns i n lt is)
    ∙ ap (λ (t : Tree Resolved). own_length t.top.redefines (whole_length greatest_number (node n).top (node n).beneath) + sum_of greatest_number (forest (drop (i + 1) ns))) (node_out n)

-- a node that takes room is added
pub adds : (ns : List Node) (i : ℕ) (n : Node) (sum part m : ℕ) → i < length ns → n ≡ get_or ns i n → is_some (out-Node n).redefines ≡ false → part ≡ min (whole_length greatest_number (node n).top (node n).beneath) m
    → min (min (sum + part) m + sum_of greatest_number (forest (drop (i + 1) ns))) m ≡ min (sum + sum_of greatest_number (forest (drop i ns))) m
adds ns i n sum part m lt is none e =
    let w = whole_length greatest_number (node n).top (node n).beneath in
    let r = sum_of greatest_number (forest (drop (i + 1) ns)) in
    sum_capped sum part w r m e ∙ ap (λ (k : ℕ). min (sum + k) m) (sym (sum_at ns i n lt is ∙ ap (λ (k : ℕ). k + r) (room_taken (out-Node n).redefines w none)))

-- one that redefines isn't
pub skips : (ns : List Node) (i : ℕ) (n : Node) → i < length ns → n ≡ get_or ns i n → is_some (out-Node n).redefines ≡ true
    → sum_of greatest_number (forest (drop (i + 1) ns)) ≡ sum_of greatest_number (forest (drop i ns))
skips ns i n lt is some =
    let w = whole_length greatest_number (node n).top (node n).beneath in
    let r = sum_of greatest_number (forest (drop (i + 1) ns)) in
    let e = sum_at ns i n lt is ∙ ap (λ (k : ℕ). k + r) (no_room (out-Node n).redefines w some) in
    omega (arith, e)
