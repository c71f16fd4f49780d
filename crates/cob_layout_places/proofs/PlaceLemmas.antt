-- The equations of `place_of`, and bounds on places.
use Rattle.std.proofs.Common.{◌≡◌, ℕ, ◌+◌, ◌*◌, ◌<◌, ◌≤◌, List, [], ◌∷◌, length, get_or, refl, sym, ap, subst, ◌∙◌, arith, Option, Some, None, Bool, true, false, ◌==◌}
use Rattle.cob_copybook_tree.specs.declared.node.Node.{Node}
use Rattle.cob_copybook_tree.specs.declared.node.Node.TheViews.{out-Node}
use Rattle.cob_copybook_tree.specs.declared.node.Kind.{Kind}
use Rattle.cob_copybook_tree.specs.declared.node.Kind.TheVariants.{Group, Item as ItemKind}
use Rattle.cob_copybook_tree.specs.Forests.{Forest, NoEntries, AnEntry, Tree}
use Rattle.cob_copybook_tree.specs.Nodes.{Resolved, resolved_entry, node, tree_of, MayHold}
use Rattle.cob_copybook_tree.specs.Lengths.{greatest_number, greatest_number_by, own_length, length_by_kind, sum_of, element_length, whole_length}
use Rattle.cob_layout_places.specs.declared.places.Found.{Found}
use Rattle.cob_layout_places.specs.Lengths.{times, area_by, MayOccur, AreInAreas, AreWithin, AreLeaves, EntryFits, FitsInRecord}
use Rattle.cob_layout_places.specs.Places.{place_of, begins, or_else, also, choose, is_table, skipped, later, is_there}
use Rattle.cob_layout_places.proofs.ForestLemmas.{left, below, below_is, left_is, redefines_of, node_out, mul-le, element_le, within_always}

-- where the entry with this number stands in one entry with those beneath it, which begins at `start`
abbrev pub place_in_entry : (Resolved → ℕ) → ℕ → Tree Resolved → ℕ → List ℕ → Option Found
place_in_entry c number t start subscripts =
    let table = is_table t.top.occurs in
    let size = element_length c t.top t.beneath in
    let offset = start + skipped table (greatest_number t.top) subscripts * size in
    let there = is_there table (c t.top) subscripts in
    choose (t.top.number == number) (record { offset = offset; length = size; within = there })
    (also there (place_of c number t.beneath offset offset (later table subscripts)))

or_none : (o : Option Found) → or_else o None ≡ o
or_none None = refl
or_none (Some f) = refl

pub begins_same : (o : Option (List ℕ)) (n : ℕ) → begins o n n ≡ n
begins_same None n = refl
begins_same (Some name) n = refl

-- so it stands in the tree of the entry
pub place_alone : (c : Resolved → ℕ) (number : ℕ) (n : Node) (start : ℕ) (subscripts : List ℕ) → place_of c number (tree_of n) start start subscripts ≡ place_in_entry c number (node n) start subscripts
place_alone c number n start subscripts =
    or_none (place_in_entry c number (node n) (begins (node n).top.redefines start start) subscripts)
    ∙ ap (λ (m : ℕ). place_in_entry c number (node n) m subscripts) (begins_same (node n).top.redefines start)

-- the elements that are skipped, and one more, are there at most
pub skipped_less : (b : Bool) (n : ℕ) (subscripts : List ℕ) → 0 < n → skipped b n subscripts + 1 ≤ n
skipped_less false n subscripts h = omega arith
skipped_less true n [] h = omega arith
skipped_less true n (s ∷ subscripts) h = omega arith

step_fits : (start k n e g m : ℕ) → k + 1 ≤ n → e ≤ g → start + n * g ≤ m → start + k * e + g ≤ m
step_fits start k n e g m h i j =
    let a : (k + 1) * g ≤ n * g = mul-le (k + 1) n g g h (omega arith) in
    let b : k * e ≤ k * g = mul-le k k e g (omega arith) i in
    let d : (k + 1) * g ≡ k * g + g = grind arith in
    omega (arith, a, b, d, j)

-- an element that is asked for ends within the room of all
pub element_fits : (c : Resolved → ℕ) (e : Resolved) (b : Forest Resolved) (start : ℕ) (subscripts : List ℕ) (m : ℕ)
    → 0 < greatest_number e → AreWithin c b → start + whole_length greatest_number e b ≤ m
    → start + skipped (is_table e.occurs) (greatest_number e) subscripts * element_length c e b + element_length greatest_number e b ≤ m
element_fits c e b start subscripts m p w h =
    step_fits start (skipped (is_table e.occurs) (greatest_number e) subscripts) (greatest_number e) (element_length c e b) (element_length greatest_number e b) m (skipped_less _ _ subscripts p) (element_le c e b w) h

-- what is known of the entries that are left, where they stand from `at` on
pub record Left (c : Resolved → ℕ) (rest : Forest Resolved) (at area m : ℕ) : Type 0 where
  pub possible : MayOccur rest
  pub leaves : AreLeaves rest
  pub within : AreWithin c rest
  pub space : ℕ
  pub room_left : area + space ≤ m
  pub areas : AreInAreas space rest
  pub greatest : at + sum_of greatest_number rest ≤ m

-- what is known of one entry
pub record Fits (c : Resolved → ℕ) (t : Tree Resolved) (start m : ℕ) : Type 0 where
  pub possible : MayOccur (AnEntry t.top t.beneath NoEntries)
  pub leaves : AreLeaves (AnEntry t.top t.beneath NoEntries)
  pub areas : AreInAreas 0 t.beneath
  pub within : AreWithin c (AnEntry t.top t.beneath NoEntries)
  pub small : start + whole_length greatest_number t.top t.beneath ≤ m

first_fits : (o : Option (List ℕ)) (at area space w sum m : ℕ) → area + space ≤ m → w ≤ area_by o space w → at + (own_length o w + sum) ≤ m → begins o at area + w ≤ m
first_fits None at area space w sum m a l g = omega arith
first_fits (Some k) at area space w sum m a l g = omega arith

rest_fits : (o : Option (List ℕ)) (at area space w v sum m : ℕ) → v ≤ w → at + (own_length o w + sum) ≤ m → at + own_length o v + sum ≤ m
rest_fits None at area space w v sum m l g = omega arith
rest_fits (Some k) at area space w v sum m l g = omega arith

after_fits : (o : Option (List ℕ)) (at area space w sum m : ℕ) → area + space ≤ m → at + (own_length o w + sum) ≤ m → begins o at area + area_by o space w ≤ m
after_fits None at area space w sum m a g = omega arith
after_fits (Some k) at area space w sum m a g = a

pub whole_le : (c : Resolved → ℕ) (e : Resolved) (b : Forest Resolved) → c e ≤ greatest_number e → AreWithin c b → whole_length c e b ≤ whole_length greatest_number e b
whole_le c e b h w = mul-le (c e) (greatest_number e) _ _ h (element_le c e b w)

pub first_of : (c : Resolved → ℕ) (e : Resolved) (b rest : Forest Resolved) (at area m : ℕ) → Left c (AnEntry e b rest) at area m
    → Fits c (record { top = e; beneath = b }) (begins e.redefines at area) m
first_of c e b rest at area m l = record {
  possible = (l.possible.0, l.possible.1, tt);
  leaves = (l.leaves.0, l.leaves.1, tt);
  areas = l.areas.1;
  within = (l.within.0, l.within.1, tt);
  small = first_fits e.redefines at area l.space (whole_length greatest_number e b) (sum_of greatest_number rest) m l.room_left l.areas.0 l.greatest;
}

pub rest_of : (c : Resolved → ℕ) (e : Resolved) (b rest : Forest Resolved) (at area m : ℕ) → Left c (AnEntry e b rest) at area m
    → Left c rest (at + own_length e.redefines (whole_length c e b)) (begins e.redefines at area) m
rest_of c e b rest at area m l = record {
  possible = l.possible.2;
  leaves = l.leaves.2;
  within = l.within.2;
  space = area_by e.redefines l.space (whole_length greatest_number e b);
  room_left = after_fits e.redefines at area l.space (whole_length greatest_number e b) (sum_of greatest_number rest) m l.room_left l.greatest;
  areas = l.areas.2;
  greatest = rest_fits e.redefines at area l.space (whole_length greatest_number e b) (whole_length c e b) (sum_of greatest_number rest) m (whole_le c e b l.within.0 l.within.1) l.greatest;
}

pub occurs_of : (n : Node) → (node n).top.occurs ≡ (out-Node n).occurs
occurs_of n = ap (λ (t : Tree Resolved). t.top.occurs) (node_out n)

-- one element of the entry that is entered ends within the room of all
pub entered : (c : Resolved → ℕ) (n : Node) (start k e m : ℕ) (subscripts : List ℕ)
    → k ≡ skipped (is_table (out-Node n).occurs) (greatest_number_by (out-Node n).occurs) subscripts → e ≡ element_length c (node n).top (node n).beneath
    → Fits c (node n) start m
    → start + k * e + element_length greatest_number (node n).top (node n).beneath ≤ m
entered c n start k e m subscripts ke ee f =
    let kk : k ≡ skipped (is_table (node n).top.occurs) (greatest_number (node n).top) subscripts = ke ∙ ap (λ o. skipped (is_table o) (greatest_number_by o) subscripts) (sym (occurs_of n)) in
    rw (kk, ee) (element_fits c (node n).top (node n).beneath start subscripts m f.possible.0 f.within.1 f.small)

-- what stands beneath an entry is no longer than its element
sum_le_one : (k : Kind) (f : Forest Resolved) → MayHold k f → sum_of greatest_number f ≤ length_by_kind k (sum_of greatest_number f)
sum_le_one Group f h = omega arith
sum_le_one (ItemKind i) NoEntries h = omega arith
sum_le_one (ItemKind i) (AnEntry e b rest) h = absurd h

pub beneath_fits : (e : Resolved) (b : Forest Resolved) (n m : ℕ) → MayHold e.kind b → n + element_length greatest_number e b ≤ m → n + sum_of greatest_number b ≤ m
beneath_fits e b n m l h = omega (arith, sum_le_one e.kind b l)

-- the children, as what is left where none has been looked at
pub entries : (c : Resolved → ℕ) (n : Node) (offset start m : ℕ)
    → Fits c (node n) start m → offset + element_length greatest_number (node n).top (node n).beneath ≤ m → Left c (below n) offset offset m
entries c n offset start m f h =
    let b : (node n).beneath ≡ below n = below_is n in
    let g = beneath_fits (node n).top (node n).beneath offset m f.leaves.0 h in
    record {
      possible = subst MayOccur b f.possible.1;
      leaves = subst AreLeaves b f.leaves.1;
      within = subst (AreWithin c) b f.within.1;
      space = 0;
      room_left = omega (arith, h);
      areas = subst (AreInAreas 0) b f.areas;
      greatest = subst (λ (t : Forest Resolved). offset + sum_of greatest_number t ≤ m) b g;
    }

-- the elements of an entry that stays in its area end by then, even where it takes no room
whole_ends : (o : Option (List ℕ)) (start w m : ℕ) → w ≤ area_by o 0 w → start + (own_length o w + 0) ≤ m → start + w ≤ m
whole_ends None start w m h k = omega (arith, k)
whole_ends (Some name) start w m h k = omega (arith, h, k)

-- an entry by itself fits
pub entry_fits : (start : ℕ) (e : Resolved) (b : Forest Resolved) → FitsInRecord start (AnEntry e b NoEntries) → EntryFits start e b
entry_fits start e b f = record {
  possible = f.possible;
  leaves = f.leaves;
  areas = f.areas.1;
  small = whole_ends e.redefines start (whole_length greatest_number e b) 32752 f.areas.0 f.small;
}

-- under counts an entry that fits has what the lemmas ask for
pub fits : (counts : List ℕ) (t : Tree Resolved) (start : ℕ) → EntryFits start t.top t.beneath → Fits (times counts) t start 32752
fits counts t start f = record { possible = f.possible; leaves = f.leaves; areas = f.areas; within = within_always counts (AnEntry t.top t.beneath NoEntries); small = f.small }

pub whole_small : (c : Resolved → ℕ) (t : Tree Resolved) (start m : ℕ) → Fits c t start m → whole_length c t.top t.beneath ≤ m
whole_small c t start m f = omega (arith, whole_le c t.top t.beneath f.within.0 f.within.1, f.small)

chosen : (b : Bool) (f : Found) (o : Option Found) → b ≡ false → choose b f o ≡ o
chosen false f o e = refl
chosen true f o e = absurd (cc)

-- where the entry isn't the one that is looked for, what stands beneath it may be
pub one_is : (c : Resolved → ℕ) (number : ℕ) (n : Node) (start k e times : ℕ) (there : Bool) (subscripts inner : List ℕ)
    → k ≡ skipped (is_table (out-Node n).occurs) (greatest_number_by (out-Node n).occurs) subscripts → e ≡ element_length c (node n).top (node n).beneath
    → times ≡ c (node n).top
    → there ≡ is_there (is_table (out-Node n).occurs) times subscripts → inner ≡ later (is_table (out-Node n).occurs) subscripts
    → ((out-Node n).number == number) ≡ false
    → place_in_entry c number (node n) start subscripts ≡ also there (place_of c number (below n) (start + k * e) (start + k * e) inner)
one_is c number n start k e times there subscripts inner ke ee me te ie ne =
    let info : Resolved = resolved_entry (out-Node n) in
    let e2 : e ≡ element_length c info (below n) = ee ∙ ap (λ (t : Tree Resolved). element_length c t.top t.beneath) (node_out n) in
    let m2 : times ≡ c info = me ∙ ap (λ (t : Tree Resolved). c t.top) (node_out n) in
    let t2 : there ≡ is_there (is_table (out-Node n).occurs) (c info) subscripts = te ∙ ap (λ m. is_there (is_table (out-Node n).occurs) m subscripts) m2 in
    let last : also there (place_of c number (below n) (start + k * e) (start + k * e) inner) ≡ also (is_there (is_table (out-Node n).occurs) (c info) subscripts)
    (place_of c number (below n) (start + skipped (is_table (out-Node n).occurs) (greatest_number_by (out-Node n).occurs) subscripts * element_length c info (below n))
    (start + skipped (is_table (out-Node n).occurs) (greatest_number_by (out-Node n).occurs) subscripts * element_length c info (below n)) (later (is_table (out-Node n).occurs) subscripts))
    = rw (ke, e2, t2, ie) refl in
    ap (λ (t : Tree Resolved). place_in_entry c number t start subscripts) (node_out n) ∙ chosen _ _ _ ne ∙ sym last

pub find_left : (c : Resolved → ℕ) (number : ℕ) (children : List Node) (k : ℕ) (n : Node) (at area : ℕ) (subscripts : List ℕ) → k < length children → n ≡ get_or children k n
    → place_of c number (left children k) at area subscripts ≡ or_else (place_in_entry c number (node n) (begins (out-Node n).redefines at area) subscripts)
    (place_of c number (left children (k + 1)) (at + own_length (out-Node n).redefines (whole_length c (node n).top (node n).beneath)) (begins (out-Node n).redefines at area) subscripts)
find_left c number children k n at area subscripts lt is =
    ap (λ (f : Forest Resolved). place_of c number f at area subscripts) (left_is children k n lt is)
    ∙ ap (λ (o : Option (List ℕ)). or_else (place_in_entry c number (node n) (begins o at area) subscripts)
    (place_of c number (left children (k + 1)) (at + own_length o (whole_length c (node n).top (node n).beneath)) (begins o at area) subscripts)) (redefines_of n)

pub left_first : (c : Resolved → ℕ) (children : List Node) (k : ℕ) (n : Node) (at area m : ℕ) → k < length children → n ≡ get_or children k n
    → Left c (left children k) at area m → Fits c (node n) (begins (out-Node n).redefines at area) m
left_first c children k n at area m lt is l =
    let l2 : Left c (AnEntry (node n).top (node n).beneath (left children (k + 1))) at area m = subst (λ (f : Forest Resolved). Left c f at area m) (left_is children k n lt is) l in
    subst (λ (o : Option (List ℕ)). Fits c (node n) (begins o at area) m) (redefines_of n) (first_of c _ _ _ at area m l2)

pub left_rest : (c : Resolved → ℕ) (children : List Node) (k : ℕ) (n : Node) (at area m : ℕ) → k < length children → n ≡ get_or children k n
    → Left c (left children k) at area m → Left c (left children (k + 1)) (at + own_length (out-Node n).redefines (whole_length c (node n).top (node n).beneath)) (begins (out-Node n).redefines at area) m
left_rest c children k n at area m lt is l =
    let l2 : Left c (AnEntry (node n).top (node n).beneath (left children (k + 1))) at area m = subst (λ (f : Forest Resolved). Left c f at area m) (left_is children k n lt is) l in
    subst (λ (o : Option (List ℕ)). Left c (left children (k + 1)) (at + own_length o (whole_length c (node n).top (node n).beneath)) (begins o at area) m) (redefines_of n) (rest_of c _ _ _ at area m l2)

none_first : (c : Resolved → ℕ) (number : ℕ) (t : Tree Resolved) (rest : Forest Resolved) (at area : ℕ) (subscripts : List ℕ) (begin size : ℕ) (o : Option (List ℕ)) (step : ℕ)
    → place_in_entry c number t begin subscripts ≡ None → begin ≡ begins o at area → step ≡ own_length o size
    → or_else (place_in_entry c number t (begins o at area) subscripts) (place_of c number rest (at + own_length o size) (begins o at area) subscripts)
    ≡ place_of c number rest (at + step) begin subscripts
none_first c number t rest at area subscripts begin size o step n b q =
    let e : place_in_entry c number t (begins o at area) subscripts ≡ None = subst (λ (m : ℕ). place_in_entry c number t m subscripts ≡ None) b n in
    ap (λ (p : Option Found). or_else p (place_of c number rest (at + own_length o size) (begins o at area) subscripts)) e
    ∙ ap (λ (m : ℕ). place_of c number rest (at + m) (begins o at area) subscripts) (sym q)
    ∙ ap (λ (m : ℕ). place_of c number rest (at + step) m subscripts) (sym b)

-- an entry that isn't found in a child is looked for in those behind it
pub further : (c : Resolved → ℕ) (number : ℕ) (children : List Node) (k : ℕ) (n : Node) (at area : ℕ) (subscripts : List ℕ) (begin step : ℕ)
    → k < length children → n ≡ get_or children k n
    → place_in_entry c number (node n) begin subscripts ≡ None → begin ≡ begins (out-Node n).redefines at area → step ≡ own_length (out-Node n).redefines (whole_length c (node n).top (node n).beneath)
    → place_of c number (left children k) at area subscripts ≡ place_of c number (left children (k + 1)) (at + step) begin subscripts
further c number children k n at area subscripts begin step lt is none b q =
    find_left c number children k n at area subscripts lt is
    ∙ none_first c number (node n) (left children (k + 1)) at area subscripts begin (whole_length c (node n).top (node n).beneath) (out-Node n).redefines step none b q

-- an entry that is found in a child is found there among those that are left
pub in_first : (c : Resolved → ℕ) (number : ℕ) (children : List Node) (k : ℕ) (n : Node) (at area : ℕ) (subscripts : List ℕ) (begin : ℕ) (found : Found)
    → k < length children → n ≡ get_or children k n
    → place_in_entry c number (node n) begin subscripts ≡ Some found → begin ≡ begins (out-Node n).redefines at area
    → place_of c number (left children k) at area subscripts ≡ Some found
in_first c number children k n at area subscripts begin found lt is h b =
    find_left c number children k n at area subscripts lt is
    ∙ ap (λ (p : Option Found). or_else p (place_of c number (left children (k + 1)) (at + own_length (out-Node n).redefines (whole_length c (node n).top (node n).beneath)) (begins (out-Node n).redefines at area) subscripts))
    (ap (λ (m : ℕ). place_in_entry c number (node n) m subscripts) (sym b) ∙ h)
