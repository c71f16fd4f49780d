-- The storage of entries side by side, from the front.
use Rattle.std.proofs.Common.{◌≡◌, ℕ, List, [], ◌++◌, length, take, Option, None, Some, is_some, true, false, refl, sym, ap, ◌∙◌}
use Rattle.std.proofs.lemmas.List.{take_at}
use Rattle.cob_copybook_tree.specs.declared.node.Node.{Node}
use Rattle.cob_copybook_tree.specs.declared.node.Node.TheViews.{out-Node}
use Rattle.cob_copybook_tree.specs.Forests.{Forest, AnEntry, Tree}
use Rattle.cob_copybook_tree.specs.Nodes.{Resolved, node}
use Rattle.cob_copybook_tree.specs.Lengths.{greatest_number, greatest_number_by, sum_of, element_length}
use Rattle.cob_layout.proofs.ForestLemmas.{node_out}
use Rattle.cob_move_receive.specs.Characters.{repeated}
use Rattle.cob_move_initial.proofs.PartLemmas.{parts_repeated}
use Rattle.cob_move_initial.specs.Initial.{Unless, HoldsElement}
use Rattle.cob_move_initial.specs.Begun.{AreElements, AreBegun}

unless_own : (o : Option (List ℕ)) (IsPart : List ℕ → Type 0) (bytes : List ℕ) → is_some o ≡ false → IsPart bytes → Unless o IsPart bytes
unless_own None IsPart bytes own is = is
unless_own (Some name) IsPart bytes own is = absurd cc

unless_shared : (o : Option (List ℕ)) (IsPart : List ℕ → Type 0) → is_some o ≡ true → Unless o IsPart []
unless_shared None IsPart shared = absurd cc
unless_shared (Some name) IsPart shared = refl

-- an entry that redefines nothing stands before the others
pub own_first : (e : Resolved) (children more : Forest Resolved) (first rest : List ℕ) → is_some e.redefines ≡ false → AreElements e children first → AreBegun more rest → AreBegun (AnEntry e children more) (first ++ rest)
own_first e children more first rest own elements is = (first, rest, refl, unless_own e.redefines (AreElements e children) first own elements, is)

-- a redefinition takes nothing
pub shared_first : (e : Resolved) (children more : Forest Resolved) (rest : List ℕ) → is_some e.redefines ≡ true → AreBegun more rest → AreBegun (AnEntry e children more) rest
shared_first e children more rest shared is = ([], rest, refl, unless_shared e.redefines (AreElements e children) shared, is)

-- all elements of an entry, where the first one is repeated
pub elements_repeated : (n : Node) (times size : ℕ) (part behind bytes : List ℕ) → times ≡ greatest_number_by (out-Node n).occurs → size ≡ element_length greatest_number (node n).top (node n).beneath → length part ≡ size → bytes ≡ repeated times (take size (part ++ behind))
    → HoldsElement (node n).top.kind (node n).top.value (sum_of greatest_number (node n).beneath) (AreBegun (node n).beneath) part → AreElements (node n).top (node n).beneath bytes
elements_repeated n times size part behind bytes most_is size_is long is holds =
    let all : greatest_number (node n).top ≡ times = ap (λ (t : Tree Resolved). greatest_number t.top) (node_out n) ∙ sym most_is in
    rw (is, take_at part behind size long, ← all) (parts_repeated _ (greatest_number (node n).top) part (long ∙ size_is, holds))
