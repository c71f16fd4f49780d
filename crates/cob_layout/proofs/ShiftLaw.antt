-- The spots of entries are the least ones, shifted by sums that grow with the tables.
use Rattle.std.proofs.Common.{◌≡◌, ℕ, zero, suc, ◌+◌, ◌-◌, ◌*◌, ◌<◌, ◌≤◌, min, max, Bool, true, false, List, [], ◌∷◌, ◌++◌, length, Option, Some, None, refl, sym, ap, ◌∙◌, arith}
use Rattle.std.specs.Prelude.{◌||◌, ◌&&◌, slice_index}
use Rattle.std.proofs.lemmas.List.{length-append}
use Rattle.cob_copybook_tree.specs.declared.node.Kind.{Kind}
use Rattle.cob_copybook_tree.specs.declared.node.Kind.TheVariants.{Group, Item as ItemKind}
use Rattle.cob_copybook_tree.specs.declared.node.ResolvedOccurs.{ResolvedOccurs}
use Rattle.cob_copybook_tree.specs.declared.node.ResolvedOccurs.TheVariants.{Once, Fixed, Varying}
use Rattle.cob_copybook_tree.specs.Forests.{Forest, NoEntries, AnEntry, Tree, entries_in}
use Rattle.cob_copybook_tree.specs.Nodes.{Resolved, MayHold, is_varying}
use Rattle.cob_copybook_tree.specs.Lengths.{element_length, whole_length, own_length, length_by_kind, sum_of, item_size}
use Rattle.cob_copybook_rules.specs.Areas.{hold_varying, HasFixedLength, FitsFirst, MayFollow, AreAreas, area_with}
use Rattle.cob_layout_places.specs.declared.spots.Spot.{Spot}
use Rattle.cob_layout_places.specs.Cover.{AreNumbered}
use Rattle.cob_layout_places.specs.Lengths.{times, times_by, AreLeaves}
use Rattle.cob_layout_places.specs.Places.{begins}
use Rattle.cob_layout_places.specs.Spots.{spots_of}
use Rattle.cob_layout_places.proofs.SpotLemmas.{length_spots}
use Rattle.cob_layout.specs.Counting.{varying}
use Rattle.cob_layout.specs.declared.shifts.Shift.{Shift}
use Rattle.cob_layout.specs.Shifts.{all_shifted, grow_in, own_bytes, own_growth, shifted_spot, shifts_from}

pub both : (a b : Bool) → (a && b) ≡ true → (a ≡ true) × (b ≡ true)
both true b e = (refl, e)
both false b e = cc

neither : (a b : Bool) → (a || b) ≡ false → (a ≡ false) × (b ≡ false)
neither false false e = (refl, refl)
neither false true e = cc
neither true b e = cc

-- ---- where nothing varies, nothing grows

still_own : (o : ResolvedOccurs) (many : ℕ) → is_varying o ≡ false → many ≡ 0 → own_growth o many ≡ 0
still_own Once many e none = refl
still_own (Fixed k) many e none = omega (arith, none)
still_own (Varying least most count) many e none = absurd (cc)

none_fixed : (f : Forest Resolved) → hold_varying f ≡ false → grow_in f ≡ 0
none_fixed NoEntries h = refl
none_fixed (AnEntry e children more) h =
    let (own, rest) = neither (is_varying e.occurs) (hold_varying children || hold_varying more) h in
    let (kids, beside) = neither (hold_varying children) (hold_varying more) rest in
    let below = none_fixed children kids in
    omega (arith, below, still_own e.occurs (grow_in children) own below, none_fixed more beside)

-- ---- an entry is no shorter under counts than without

times_le : (count : ℕ) (o : ResolvedOccurs) → times_by 0 o ≤ times_by count o
times_le count Once = omega arith
times_le count (Fixed k) = omega arith
times_le count (Varying least most by) = omega arith

pub product_le : (a b c d : ℕ) → a ≤ b → c ≤ d → a * c ≤ b * d
product_le a b c d h k = grind arith

pub kind_le : (k : Kind) (m n : ℕ) → m ≤ n → length_by_kind k m ≤ length_by_kind k n
kind_le Group m n h = h
kind_le (ItemKind i) m n h = omega arith

pub room_le : (o : Option (List ℕ)) (m n : ℕ) → m ≤ n → own_length o m ≤ own_length o n
room_le None m n h = h
room_le (Some a) m n h = omega arith

pub least_le : (counts : List ℕ) (f : Forest Resolved) → sum_of (times []) f ≤ sum_of (times counts) f
least_le counts NoEntries = omega arith
least_le counts (AnEntry e children more) =
    let inner = kind_le e.kind (sum_of (times []) children) (sum_of (times counts) children) (least_le counts children) in
    let whole = product_le (times [] e) (times counts e) (element_length (times []) e children) (element_length (times counts) e children) (times_le (slice_index counts e.number) e.occurs) inner in
    let here = room_le e.redefines (whole_length (times []) e children) (whole_length (times counts) e children) whole in
    omega (arith, here, least_le counts more)

pub element_least : (counts : List ℕ) (e : Resolved) (children : Forest Resolved) → element_length (times []) e children ≤ element_length (times counts) e children
element_least counts e children = kind_le e.kind (sum_of (times []) children) (sum_of (times counts) children) (least_le counts children)

-- ---- the sums grow by the bytes of the tables

-- behind a table that grows, the sum is this one
abbrev pub GrowsBy : List ℕ → (n : ℕ) → (many : ℕ) → (own : ℕ) → (bytes : ℕ) → (often : ℕ) → Type 0
GrowsBy sums n many own bytes often =
    0 < own → slice_index sums (n + many + 1) ≡ slice_index sums n + often * (bytes + slice_index sums (n + many) - slice_index sums n)

-- so it is behind each of these entries and those beneath them
abbrev pub Grow : List ℕ → List ℕ → ℕ → Forest Resolved → Type 0
Grow sums counts n NoEntries = Unit {0}
Grow sums counts n (AnEntry e children more) =
    GrowsBy sums n (grow_in children) (own_growth e.occurs (grow_in children)) (own_bytes e.occurs (element_length (times []) e children)) (times counts e)
    × Grow sums counts n children × Grow sums counts (n + grow_in children + own_growth e.occurs (grow_in children)) more

-- ---- and the lengths of entries with them

elem_grows : (sums : List ℕ) (k : Kind) (children : Forest Resolved) (n c z : ℕ) → MayHold k children → c + slice_index sums n ≡ z + slice_index sums (n + grow_in children)
    → length_by_kind k c + slice_index sums n ≡ length_by_kind k z + slice_index sums (n + grow_in children)
elem_grows sums Group children n c z h is = is
elem_grows sums (ItemKind i) NoEntries n c z h is =
    let e : n ≡ n + 0 = omega arith in
    ap (λ (k : ℕ). item_size i + slice_index sums k) e
elem_grows sums (ItemKind i) (AnEntry e children more) n c z h is = absurd h

spread : (t a b : ℕ) → t * (a + b) ≡ t * a + t * b
spread t a b = grind arith

whole_grows : (sums : List ℕ) (o : ResolvedOccurs) (count n c z many : ℕ) → c + slice_index sums n ≡ z + slice_index sums (n + many) → z ≤ c
    → GrowsBy sums n many (own_growth o many) (own_bytes o z) (times_by count o)
    → times_by count o * c + slice_index sums n ≡ times_by 0 o * z + slice_index sums (n + many + own_growth o many)
whole_grows sums Once count n c z many is le grows =
    let e : n + many + 0 ≡ n + many = omega arith in
    omega (arith, is, ap (λ (k : ℕ). slice_index sums k) e)
whole_grows sums (Fixed t) count n c z zero is le grows =
    let e : n + 0 ≡ n = omega arith in
    let g : n + 0 + min 0 1 ≡ n = omega arith in
    let same : c ≡ z = omega (arith, is, ap (λ (k : ℕ). slice_index sums k) e) in
    ap (λ (v : ℕ). t * v + slice_index sums n) same ∙ ap (λ (k : ℕ). t * z + slice_index sums k) (sym g)
whole_grows sums (Fixed t) count n c z (suc m) is le grows =
    let one : min (suc m) 1 ≡ 1 = omega arith in
    let more : ℕ = 0 + slice_index sums (n + suc m) - slice_index sums n in
    let next : slice_index sums (n + suc m + 1) ≡ slice_index sums n + t * more = grows (omega (arith, one)) in
    let long : c ≡ z + more = omega (arith, is, le) in
    let at : n + suc m + min (suc m) 1 ≡ n + suc m + 1 = omega (arith, one) in
    let all : t * c ≡ t * z + t * more = ap (λ (v : ℕ). t * v) long ∙ spread t z more in
    omega (arith, all, next, ap (λ (k : ℕ). slice_index sums k) at)
whole_grows sums (Varying least most by) count n c z many is le grows =
    let t : ℕ = min count most in
    let size : ℕ = z + slice_index sums (n + many) - slice_index sums n in
    let next : slice_index sums (n + many + 1) ≡ slice_index sums n + t * size = grows (omega arith) in
    let long : size ≡ c = omega (arith, is) in
    let zero_most : min 0 most ≡ 0 = omega arith in
    let nothing : min 0 most * z ≡ 0 * z = ap (λ (v : ℕ). v * z) zero_most in
    omega (arith, next, nothing, ap (λ (v : ℕ). t * v) long)

fixed_first : (areas : List (Tree Resolved)) (t : Tree Resolved) → FitsFirst areas t → HasFixedLength t
fixed_first [] t h = absurd h
fixed_first (first ∷ ts) t h = h.also_steady

-- an entry that redefines has no table that grows
pub none_one : (e : Resolved) (children : Forest Resolved) → HasFixedLength (record { top = e; beneath = children }) → grow_in children + own_growth e.occurs (grow_in children) ≡ 0
none_one e children h = omega (arith, none_fixed (AnEntry e children NoEntries) h)

pub none_redefining : (name : List ℕ) (areas : List (Tree Resolved)) (e : Resolved) (children : Forest Resolved) → MayFollow (Some name) areas (record { top = e; beneath = children })
    → grow_in children + own_growth e.occurs (grow_in children) ≡ 0
none_redefining name areas e children may = none_one e children (fixed_first areas (record { top = e; beneath = children }) may.1)

room_grows : (sums : List ℕ) (o : Option (List ℕ)) (areas : List (Tree Resolved)) (e : Resolved) (children : Forest Resolved) (n c z : ℕ) → MayFollow o areas (record { top = e; beneath = children })
    → c + slice_index sums n ≡ z + slice_index sums (n + grow_in children + own_growth e.occurs (grow_in children))
    → own_length o c + slice_index sums n ≡ own_length o z + slice_index sums (n + grow_in children + own_growth e.occurs (grow_in children))
room_grows sums None areas e children n c z may is = is
room_grows sums (Some name) areas e children n c z may is =
    let same : n ≡ n + grow_in children + own_growth e.occurs (grow_in children) = omega (arith, none_redefining name areas e children may) in
    ap (λ (k : ℕ). 0 + slice_index sums k) same

-- what one entry adds to the lengths: its element, its elements and its room
pub record Adds (sums counts : List ℕ) (e : Resolved) (children : Forest Resolved) (n : ℕ) : Type 0 where
  pub elem : element_length (times counts) e children + slice_index sums n ≡ element_length (times []) e children + slice_index sums (n + grow_in children)
  pub whole : whole_length (times counts) e children + slice_index sums n
      ≡ whole_length (times []) e children + slice_index sums (n + grow_in children + own_growth e.occurs (grow_in children))
  pub room : own_length e.redefines (whole_length (times counts) e children) + slice_index sums n
      ≡ own_length e.redefines (whole_length (times []) e children) + slice_index sums (n + grow_in children + own_growth e.occurs (grow_in children))

pub adds : (sums counts : List ℕ) (e : Resolved) (children : Forest Resolved) (areas : List (Tree Resolved)) (n : ℕ) → MayHold e.kind children → MayFollow e.redefines areas (record { top = e; beneath = children })
    → GrowsBy sums n (grow_in children) (own_growth e.occurs (grow_in children)) (own_bytes e.occurs (element_length (times []) e children)) (times counts e)
    → sum_of (times counts) children + slice_index sums n ≡ sum_of (times []) children + slice_index sums (n + grow_in children) → Adds sums counts e children n
adds sums counts e children areas n leaf may own is =
    let elem = elem_grows sums e.kind children n (sum_of (times counts) children) (sum_of (times []) children) leaf is in
    let whole = whole_grows sums e.occurs (slice_index counts e.number) n (element_length (times counts) e children) (element_length (times []) e children) (grow_in children) elem (element_least counts e children) own in
    record {
      elem = elem;
      whole = whole;
      room = room_grows sums e.redefines areas e children n (whole_length (times counts) e children) (whole_length (times []) e children) may whole;
    }

pub sum_grows : (sums counts : List ℕ) (f : Forest Resolved) (areas : List (Tree Resolved)) (n : ℕ) → AreLeaves f → AreAreas areas f → Grow sums counts n f
    → sum_of (times counts) f + slice_index sums n ≡ sum_of (times []) f + slice_index sums (n + grow_in f)
sum_grows sums counts NoEntries areas n leaves are g =
    let e : n ≡ n + 0 = omega arith in
    ap (λ (k : ℕ). 0 + slice_index sums k) e
sum_grows sums counts (AnEntry e children more) areas n leaves are g =
    let below = sum_grows sums counts children [] n leaves.1 are.1 g.1 in
    let own = adds sums counts e children areas n leaves.0 are.0 g.0 below in
    let further = n + grow_in children + own_growth e.occurs (grow_in children) in
    let later = sum_grows sums counts more (area_with e.redefines areas (record { top = e; beneath = children })) further leaves.2 are.2 g.2 in
    let ends : further + grow_in more ≡ n + (grow_in children + own_growth e.occurs (grow_in children) + grow_in more) = omega arith in
    omega (arith, own.room, later, ap (λ (k : ℕ). slice_index sums k) ends)

-- what stands behind entries stands no less far with the counts than without
pub rises : (sums counts : List ℕ) (f : Forest Resolved) (areas : List (Tree Resolved)) (n : ℕ) → AreLeaves f → AreAreas areas f → Grow sums counts n f → slice_index sums n ≤ slice_index sums (n + grow_in f)
rises sums counts f areas n leaves are g = omega (arith, sum_grows sums counts f areas n leaves are g, least_le counts f)

-- ---- the spots

-- entries that may redefine an area begin where it does, with no table between
abbrev pub Joins : List (Tree Resolved) → ℕ → ℕ → Type 0
Joins [] m n = Unit {0}
Joins (first ∷ ts) m n = HasFixedLength first → m ≡ n

joined : (sums : List ℕ) (o : Option (List ℕ)) (areas : List (Tree Resolved)) (t : Tree Resolved) (at area n m : ℕ) → MayFollow o areas t → Joins areas m n
    → begins o (at + slice_index sums n) (area + slice_index sums m) ≡ begins o at area + slice_index sums n
joined sums None areas t at area n m may j = refl
joined sums (Some name) [] t at area n m may j = absurd may.1
joined sums (Some name) (first ∷ ts) t at area n m may j = ap (λ (k : ℕ). area + slice_index sums k) (j may.1.steady)

joins_next : (o : Option (List ℕ)) (areas : List (Tree Resolved)) (t : Tree Resolved) (n next : ℕ) → MayFollow o areas t → (HasFixedLength t → next ≡ n) → Joins (area_with o areas t) n next
joins_next None areas t n next may h = λ fixed. sym (h fixed)
joins_next (Some name) [] t n next may h = absurd may.1
joins_next (Some name) (first ∷ ts) t n next may h = λ fixed. sym (h may.1.also_steady)

pub often : (o : ResolvedOccurs) (count : ℕ) → times_by count o ≡ max (times_by 0 o) (min count (varying o))
often Once count = omega arith
often (Fixed k) count = omega arith
often (Varying least most number) count = omega arith

pub length_shifts : (n : ℕ) (f : Forest Resolved) → length (shifts_from n f) ≡ entries_in f
length_shifts n NoEntries = refl
length_shifts n (AnEntry e children more) =
    let next = n + grow_in children + own_growth e.occurs (grow_in children) in
    omega (arith, length-append (shifts_from n children) (shifts_from next more), length_shifts n children, length_shifts next more)

shifted_append : (sums counts : List ℕ) (k : ℕ) (ss ts : List Shift) (xs ys : List Spot) → length ss ≡ length xs
    → all_shifted sums counts k (ss ++ ts) (xs ++ ys) ≡ all_shifted sums counts k ss xs ++ all_shifted sums counts (k + length ss) ts ys
shifted_append sums counts k [] ts [] ys e =
    let same : k ≡ k + 0 = omega arith in
    ap (λ (j : ℕ). all_shifted sums counts j ts ys) same
shifted_append sums counts k [] ts (x ∷ xs) ys e = absurd (omega (arith, e))
shifted_append sums counts k (s ∷ ss) ts [] ys e = absurd (omega (arith, e))
shifted_append sums counts k (s ∷ ss) ts (x ∷ xs) ys e =
    let here = shifted_spot sums (slice_index counts k) s x in
    let same : k + 1 + length ss ≡ k + length (s ∷ ss) = omega arith in
    ap (λ (zs : List Spot). here ∷ zs) (shifted_append sums counts (k + 1) ss ts xs ys (omega (arith, e)))
    ∙ ap (λ (j : ℕ). here ∷ (all_shifted sums counts (k + 1) ss xs ++ all_shifted sums counts j ts ys)) same

pub stand_shifted : (sums counts : List ℕ) (f : Forest Resolved) (areas : List (Tree Resolved)) (k n m at area : ℕ) → AreNumbered k f → AreLeaves f → AreAreas areas f → Joins areas m n
    → Grow sums counts n f
    → spots_of (times counts) f (at + slice_index sums n) (area + slice_index sums m) ≡ all_shifted sums counts k (shifts_from n f) (spots_of (times []) f at area)
stand_shifted sums counts NoEntries areas k n m at area num leaves are j g = refl
stand_shifted sums counts (AnEntry e children more) areas k n m at area num leaves are j g =
    let tree : Tree Resolved = record { top = e; beneath = children } in
    let own = adds sums counts e children areas n leaves.0 are.0 g.0 (sum_grows sums counts children [] n leaves.1 are.1 g.1) in
    let start = begins e.redefines at area in
    let begin = begins e.redefines (at + slice_index sums n) (area + slice_index sums m) in
    let room = own_length e.redefines (whole_length (times counts) e children) in
    let least_room = own_length e.redefines (whole_length (times []) e children) in
    let further = n + grow_in children + own_growth e.occurs (grow_in children) in
    let starts : begin ≡ start + slice_index sums n = joined sums e.redefines areas tree at area n m are.0 j in
    let goes_on : at + slice_index sums n + room ≡ at + least_room + slice_index sums further = omega (arith, own.room) in
    let long : element_length (times counts) e children ≡ element_length (times []) e children + slice_index sums (n + grow_in children) - slice_index sums n = omega (arith, own.elem) in
    let times_are : times counts e ≡ max (times [] e) (min (slice_index counts k) (varying e.occurs)) =
    often e.occurs (slice_index counts e.number) ∙ ap (λ (i : ℕ). max (times [] e) (min (slice_index counts i) (varying e.occurs))) num.0 in
    let below = stand_shifted sums counts children [] (k + 1) n n start start num.1 leaves.1 are.1 tt g.1 in
    let fixed : HasFixedLength tree → further ≡ n = λ h. omega (arith, none_one e children h) in
    let later = stand_shifted sums counts more (area_with e.redefines areas tree) (k + 1 + entries_in children) further n (at + least_room) start num.2 leaves.2 are.2
    (joins_next e.redefines areas tree n further are.0 fixed) g.2 in
    let first : Spot = record { offset = start + slice_index sums n; length = element_length (times []) e children + slice_index sums (n + grow_in children) - slice_index sums n; times = max (times [] e) (min (slice_index counts k) (varying e.occurs)) } in
    let many : k + 1 + entries_in children ≡ k + 1 + length (shifts_from n children) = omega (arith, length_shifts n children) in
    let as_many : length (shifts_from n children) ≡ length (spots_of (times []) children start start) = omega (arith, length_shifts n children, length_spots (times []) children start start) in
    (λ i. record { offset = starts i; length = long i; times = times_are i } ∷ (spots_of (times counts) children (starts i) (starts i) ++ spots_of (times counts) more (goes_on i) (starts i)))
    ∙ ap (λ (zs : List Spot). first ∷ (zs ++ spots_of (times counts) more (at + least_room + slice_index sums further) (start + slice_index sums n))) below
    ∙ ap (λ (zs : List Spot). first ∷ (all_shifted sums counts (k + 1) (shifts_from n children) (spots_of (times []) children start start) ++ zs)) later
    ∙ ap (λ (i : ℕ). first ∷ (all_shifted sums counts (k + 1) (shifts_from n children) (spots_of (times []) children start start) ++ all_shifted sums counts i (shifts_from further more) (spots_of (times []) more (at + least_room) start))) many
    ∙ ap (λ (zs : List Spot). first ∷ zs) (sym (shifted_append sums counts (k + 1) (shifts_from n children) (shifts_from further more) (spots_of (times []) children start start) (spots_of (times []) more (at + least_room) start) as_many))
