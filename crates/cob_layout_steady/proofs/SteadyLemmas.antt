-- Elements begin further behind where tables have more elements.
use Rattle.std.proofs.Common.{◌≡◌, ℕ, ◌+◌, ◌*◌, ◌≤◌, ◌==◌, Bool, true, false, List, [], refl, sym, ap, subst, ◌∙◌, arith, Option, Some, None, Ok, Err}
use Rattle.std.specs.Bool.{Decides}
use Rattle.std.specs.Prelude.{Result, option_map, slice_index}
use Rattle.cob_copybook_tree.specs.declared.node.Kind.{Kind}
use Rattle.cob_copybook_tree.specs.declared.node.Kind.TheVariants.{Group, Item as ItemKind}
use Rattle.cob_copybook_tree.specs.declared.node.ResolvedOccurs.{ResolvedOccurs}
use Rattle.cob_copybook_tree.specs.declared.node.ResolvedOccurs.TheVariants.{Once, Fixed, Varying}
use Rattle.cob_copybook_tree.specs.Forests.{Forest, NoEntries, AnEntry}
use Rattle.cob_copybook_tree.specs.Nodes.{Resolved}
use Rattle.cob_copybook_tree.specs.Lengths.{greatest_number, greatest_number_by, own_length, length_by_kind, sum_of, element_length, whole_length}
use Rattle.cob_layout_places.specs.declared.places.Found.{Found}
use Rattle.cob_layout_places.specs.Lengths.{times, times_by}
use Rattle.cob_layout_places.specs.Places.{also, begins, choose, is_table, is_there, later, or_else, place_of, skipped}
use Rattle.cob_layout.specs.Counting.{AreGreatest}
use Rattle.cob_layout.specs.Laws.{offset_of}
use Rattle.cob_layout.specs.Placed.{placed}
use Rattle.cob_layout.specs.declared.fields.Place.{Place}
use Rattle.cob_layout.specs.declared.layout.PlaceFault.{PlaceFault}
use Rattle.cob_layout_steady.specs.Steady.{IsSteady, begins_under, offset_by}

-- ---- lengths

product_le : (a b c d : ℕ) → a ≤ b → c ≤ d → a * c ≤ b * d
product_le a b c d h k = grind arith

kind_le : (k : Kind) (m n : ℕ) → m ≤ n → length_by_kind k m ≤ length_by_kind k n
kind_le Group m n h = h
kind_le (ItemKind i) m n h = omega arith

room_le : (o : Option (List ℕ)) (m n : ℕ) → m ≤ n → own_length o m ≤ own_length o n
room_le None m n h = h
room_le (Some a) m n h = omega arith

-- where each entry occurs as often or more often, all are as long or longer
sum_le : (c d : Resolved → ℕ) → ((e : Resolved) → c e ≤ d e) → (f : Forest Resolved) → sum_of c f ≤ sum_of d f
sum_le c d le NoEntries = omega arith
sum_le c d le (AnEntry e children more) =
    let inner = kind_le e.kind (sum_of c children) (sum_of d children) (sum_le c d le children) in
    let whole = product_le (c e) (d e) (element_length c e children) (element_length d e children) (le e) inner in
    let here = room_le e.redefines (whole_length c e children) (whole_length d e children) whole in
    omega (arith, here, sum_le c d le more)

element_le : (c d : Resolved → ℕ) → ((e : Resolved) → c e ≤ d e) → (e : Resolved) (f : Forest Resolved) → element_length c e f ≤ element_length d e f
element_le c d le e f = kind_le e.kind (sum_of c f) (sum_of d f) (sum_le c d le f)

-- ---- places

-- the first begins no further behind, and both are there or neither
abbrev pub NoLater : Option Found → Option Found → Type 0
NoLater None None = Unit {0}
NoLater None (Some g) = ⊥
NoLater (Some f) None = ⊥
NoLater (Some f) (Some g) = f.offset ≤ g.offset

abbrev found_at : ℕ → ℕ → Bool → Found
found_at o n w = record { offset = o; length = n; within = w }

later_else : (a b x y : Option Found) → NoLater a b → NoLater x y → NoLater (or_else a x) (or_else b y)
later_else None None x y h k = k
later_else None (Some g) x y h k = absurd h
later_else (Some f) None x y h k = absurd h
later_else (Some f) (Some g) x y h k = h

later_also : (v w : Bool) (a b : Option Found) → NoLater a b → NoLater (also v a) (also w b)
later_also v w None None h = h
later_also v w None (Some g) h = absurd h
later_also v w (Some f) None h = absurd h
later_also v w (Some f) (Some g) h = h

later_choose : (is : Bool) (f g : Found) (a b : Option Found) → f.offset ≤ g.offset → NoLater a b → NoLater (choose is f a) (choose is g b)
later_choose true f g a b here h = here
later_choose false f g a b here h = h

begins_le : (o : Option (List ℕ)) (at to area room : ℕ) → at ≤ to → area ≤ room → begins o at area ≤ begins o to room
begins_le None at to area room h k = h
begins_le (Some name) at to area room h k = k

behind_le : (start later k size more : ℕ) → start ≤ later → size ≤ more → start + k * size ≤ later + k * more
behind_le start later k size more h i =
    let j = product_le k k size more (omega arith) i in
    omega (arith, h, j)

-- where each entry occurs as often or more often, what is found begins no earlier
pub no_later : (c d : Resolved → ℕ) → ((e : Resolved) → c e ≤ d e) → (number : ℕ) (tree : Forest Resolved) (at to area room : ℕ) (subscripts : List ℕ) → at ≤ to → area ≤ room
    → NoLater (place_of c number tree at area subscripts) (place_of d number tree to room subscripts)
no_later c d le number NoEntries at to area room subscripts h k = tt
no_later c d le number (AnEntry e children more) at to area room subscripts h k =
    let table = is_table e.occurs in
    let start = begins e.redefines at area in
    let begin = begins e.redefines to room in
    let first : start ≤ begin = begins_le e.redefines at to area room h k in
    let size = element_length c e children in
    let long = element_length d e children in
    let larger : size ≤ long = element_le c d le e children in
    let here : ℕ = start + skipped table (greatest_number e) subscripts * size in
    let there : ℕ = begin + skipped table (greatest_number e) subscripts * long in
    let behind : here ≤ there = behind_le start begin (skipped table (greatest_number e) subscripts) size long first larger in
    let whole : whole_length c e children ≤ whole_length d e children = product_le (c e) (d e) size long (le e) larger in
    let room_of = room_le e.redefines (whole_length c e children) (whole_length d e children) whole in
    later_else
    (choose (e.number == number) (found_at here size (is_there table (c e) subscripts)) (also (is_there table (c e) subscripts) (place_of c number children here here (later table subscripts))))
    (choose (e.number == number) (found_at there long (is_there table (d e) subscripts)) (also (is_there table (d e) subscripts) (place_of d number children there there (later table subscripts))))
    (place_of c number more (at + own_length e.redefines (whole_length c e children)) start subscripts)
    (place_of d number more (to + own_length e.redefines (whole_length d e children)) begin subscripts)
    (later_choose (e.number == number) (found_at here size (is_there table (c e) subscripts)) (found_at there long (is_there table (d e) subscripts)) _ _ behind
    (later_also (is_there table (c e) subscripts) (is_there table (d e) subscripts) _ _ (no_later c d le number children here there here there (later table subscripts) behind behind)))
    (no_later c d le number more _ _ start begin subscripts (omega (arith, h, room_of)) first)

-- ---- counts

least_le : (count : ℕ) (o : ResolvedOccurs) → times_by 0 o ≤ times_by count o
least_le count Once = omega arith
least_le count (Fixed k) = omega arith
least_le count (Varying least most by) = omega arith

most_le : (count : ℕ) (o : ResolvedOccurs) → times_by count o ≤ greatest_number_by o
most_le count Once = omega arith
most_le count (Fixed k) = omega arith
most_le count (Varying least most by) = omega arith

some_same : {m n : ℕ} → Some m ≡ Some n → m ≡ n
some_same h = cc

-- what begins no later than one thing and no earlier than another that begins there begins there
between : (a b z : Option Found) → NoLater a b → NoLater b z → offset_of a ≡ offset_of z → offset_of b ≡ offset_of z
between None None None h k same = same
between None None (Some f) h k same = absurd k
between None (Some f) z h k same = absurd h
between (Some f) None z h k same = absurd h
between (Some f) (Some g) None h k same = absurd k
between (Some f) (Some g) (Some e) h k same =
    let equal : f.offset ≡ e.offset = some_same same in
    ap (λ (o : ℕ). Some o) (omega (arith, h, k, equal))

-- an element stands at the byte where it stands under the greatest counts
stands_at : (tree : Forest Resolved) (number : ℕ) (subscripts counts : List ℕ)
    → offset_of (place_of (times []) number tree 0 0 subscripts) ≡ offset_of (place_of greatest_number number tree 0 0 subscripts)
    → begins_under counts tree number subscripts ≡ offset_of (place_of greatest_number number tree 0 0 subscripts)
stands_at tree number subscripts counts same =
    between (place_of (times []) number tree 0 0 subscripts) (place_of (times counts) number tree 0 0 subscripts) (place_of greatest_number number tree 0 0 subscripts)
    (no_later (times []) (times counts) (λ e. least_le (slice_index counts e.number) e.occurs) number tree 0 0 0 0 subscripts (omega arith) (omega arith))
    (no_later (times counts) greatest_number (λ e. most_le (slice_index counts e.number) e.occurs) number tree 0 0 0 0 subscripts (omega arith) (omega arith))
    same

pub steady : (tree : Forest Resolved) (number : ℕ) (subscripts : List ℕ)
    → offset_of (place_of (times []) number tree 0 0 subscripts) ≡ offset_of (place_of greatest_number number tree 0 0 subscripts)
    → IsSteady tree number subscripts
steady tree number subscripts same counts others = stands_at tree number subscripts counts same ∙ sym (stands_at tree number subscripts others same)

answer_same : {a b : Result Place PlaceFault} → Some a ≡ Some b → a ≡ b
answer_same h = cc

by_within : (f : Found) (w : Bool) → f.within ≡ w → offset_by (placed f) ≡ f.offset
by_within f true is = cc
by_within f false is = cc

placed_offset : (f : Found) → offset_by (placed f) ≡ f.offset
placed_offset f = by_within f f.within refl

-- what an answer says of the byte at which an element begins
pub answered : (o : Option Found) (answer : Result Place PlaceFault) → option_map placed o ≡ Some answer → offset_of o ≡ Some (offset_by answer)
answered None answer h = absurd (cc)
answered (Some f) answer h =
    let same : placed f ≡ answer = answer_same h in
    ap (λ (n : ℕ). Some n) (sym (placed_offset f) ∙ ap offset_by same)

-- the test of the bytes at which an element begins under no count and under the greatest ones decides
pub decides : (tree : Forest Resolved) (number : ℕ) (subscripts counts : List ℕ) (answer : Result Place PlaceFault) (found : Option Found) (offset : ℕ) (is : Bool) → AreGreatest tree counts
    → option_map placed (place_of (times counts) number tree 0 0 subscripts) ≡ Some answer → found ≡ place_of (times []) number tree 0 0 subscripts → offset ≡ offset_by answer
    → Decides is (offset_of found ≡ Some offset) → Decides is (IsSteady tree number subscripts)
decides tree number subscripts counts answer found offset is greatest value least same test =
    let most : offset_of (place_of (times counts) number tree 0 0 subscripts) ≡ Some offset = answered (place_of (times counts) number tree 0 0 subscripts) answer value ∙ ap (λ (n : ℕ). Some n) (sym same) in
    let there : offset_of (place_of greatest_number number tree 0 0 subscripts) ≡ Some offset = sym (ap offset_of (greatest.places number subscripts)) ∙ most in (
      λ h. steady tree number subscripts (sym (ap offset_of least) ∙ test.0 h ∙ sym there),
      λ all. test.1 (ap offset_of least ∙ all [] counts ∙ most),
    )
