-- The greatest counts of a record, in the order of its entries, and what they give.
use Rattle.std.proofs.Common.{◌≡◌, ℕ, ◌+◌, ◌*◌, ◌<◌, ◌≤◌, List, [], ◌∷◌, ◌++◌, length, replicate, refl, sym, ap, subst, ◌∙◌, arith, ◌==◌}
use Rattle.std.specs.Prelude.{slice_set, slice_index}
use Rattle.std.proofs.Math.Seq.{set-append_seam, get_or-append_seam}
use Rattle.std.proofs.lemmas.List.{append-nil, append_assoc, length-append, replicate-append-replicate}
use Rattle.cob_copybook_tree.specs.declared.node.ResolvedOccurs.{ResolvedOccurs}
use Rattle.cob_copybook_tree.specs.declared.node.ResolvedOccurs.TheVariants.{Once, Fixed, Varying}
use Rattle.cob_copybook_tree.specs.Forests.{Forest, NoEntries, AnEntry, entries_in}
use Rattle.cob_copybook_tree.specs.Nodes.{Resolved}
use Rattle.cob_copybook_tree.specs.Lengths.{greatest_number, greatest_number_by, own_length, length_by_kind, sum_of}
use Rattle.cob_layout_places.specs.declared.varying.Table.{Table}
use Rattle.cob_layout_places.specs.Lengths.{times, times_by}
use Rattle.cob_layout_places.specs.Places.{place_of, or_else, choose, also, begins, is_table, is_there, skipped, later}
use Rattle.cob_layout_places.specs.Cover.{AreNumbered}
use Rattle.cob_layout_places.specs.Counts.{table_of, tables_of, AreNumberedBelow}
use Rattle.cob_layout_places.specs.Needs.{greatest}
use Rattle.cob_layout.specs.Counting.{greatest_counts, varying, in_order, AreGreatest}

-- ---- the counts in their places

pub length_in_order : (f : Forest Resolved) → length (in_order f) ≡ entries_in f
length_in_order NoEntries = refl
length_in_order (AnEntry e children more) = omega (arith, length-append (in_order children) (in_order more), length_in_order children, length_in_order more)

greatest_append : (xs ys : List Table) (c : List ℕ) → greatest (xs ++ ys) c ≡ greatest ys (greatest xs c)
greatest_append [] ys c = refl
greatest_append (x ∷ xs) ys c = greatest_append xs ys (slice_set c x.number x.most)

put_one : (o : ResolvedOccurs) (front rest : List ℕ) (n : ℕ) → n ≡ length front → greatest (table_of o n) (front ++ 0 ∷ rest) ≡ front ++ varying o ∷ rest
put_one Once front rest n e = refl
put_one (Fixed m) front rest n e = refl
put_one (Varying least most count) front rest n e = ap (λ (i : ℕ). slice_set (front ++ 0 ∷ rest) i most) e ∙ set-append_seam front 0 rest most

more_zeros : (a b : ℕ) (back : List ℕ) → replicate (a + b) 0 ++ back ≡ replicate a 0 ++ (replicate b 0 ++ back)
more_zeros a b back = ap (λ (zs : List ℕ). zs ++ back) (sym (replicate-append-replicate a b 0)) ∙ append_assoc (replicate a 0) (replicate b 0) back

first_zero : (a b : ℕ) (back : List ℕ) → replicate (1 + a + b) 0 ++ back ≡ 0 ∷ (replicate a 0 ++ (replicate b 0 ++ back))
first_zero a b back =
    let e : 1 + a + b ≡ 1 + (a + b) = omega arith in
    ap (λ (n : ℕ). replicate n 0 ++ back) e ∙ more_zeros 1 (a + b) back ∙ ap (λ (zs : List ℕ). 0 ∷ zs) (more_zeros a b back)

one_longer : (front : List ℕ) (v : ℕ) → length (front ++ v ∷ []) ≡ length front + 1
one_longer front v = length-append front (v ∷ [])

-- entries that are numbered from the end of the counts in front on get their greatest counts
filled : (f : Forest Resolved) (front back : List ℕ) (n : ℕ) → n ≡ length front → AreNumbered n f
    → greatest (tables_of f) (front ++ (replicate (entries_in f) 0 ++ back)) ≡ front ++ (in_order f ++ back)
filled NoEntries front back n l h = refl
filled (AnEntry e children more) front back n l h =
    let a = entries_in children in
    let b = entries_in more in
    let v = varying e.occurs in
    let last = replicate b 0 ++ back in
    let next = front ++ v ∷ [] in
    let far = next ++ in_order children in
    let m : n + 1 ≡ length next = omega (arith, l, one_longer front v) in
    let k : n + 1 + a ≡ length far = omega (arith, m, length-append next (in_order children), length_in_order children) in
    greatest_append (table_of e.occurs e.number) (tables_of children ++ tables_of more) (front ++ (replicate (1 + a + b) 0 ++ back))
    ∙ ap (λ (c : List ℕ). greatest (tables_of children ++ tables_of more) (greatest (table_of e.occurs e.number) (front ++ c))) (first_zero a b back)
    ∙ ap (greatest (tables_of children ++ tables_of more)) (put_one e.occurs front (replicate a 0 ++ last) e.number (h.0 ∙ l))
    ∙ ap (greatest (tables_of children ++ tables_of more)) (sym (append_assoc front (v ∷ []) (replicate a 0 ++ last)))
    ∙ greatest_append (tables_of children) (tables_of more) (next ++ (replicate a 0 ++ last))
    ∙ ap (greatest (tables_of more)) (filled children next last (n + 1) m h.1 ∙ sym (append_assoc next (in_order children) last))
    ∙ filled more far back (n + 1 + a) k h.2
    ∙ append_assoc next (in_order children) (in_order more ++ back)
    ∙ append_assoc front (v ∷ []) (in_order children ++ (in_order more ++ back))
    ∙ ap (λ (c : List ℕ). front ++ v ∷ c) (sym (append_assoc (in_order children) (in_order more) back))

-- the greatest counts of a record are those of its entries in their order
pub greatest_is : (t : Forest Resolved) → AreNumbered 0 t → greatest_counts t ≡ in_order t
greatest_is t h =
    ap (greatest (tables_of t)) (sym (append-nil (replicate (entries_in t) 0)))
    ∙ filled t [] [] 0 refl h
    ∙ append-nil (in_order t)

-- there is one for each entry
pub greatest_length : (t : Forest Resolved) → AreNumbered 0 t → length (greatest_counts t) ≡ entries_in t
greatest_length t h = ap length (greatest_is t h) ∙ length_in_order t

-- ---- each table has a place among them

slots_append : (m : ℕ) (xs ys : List Table) → AreNumberedBelow m xs → AreNumberedBelow m ys → AreNumberedBelow m (xs ++ ys)
slots_append m [] ys h k = k
slots_append m (x ∷ xs) ys h k = (h.0, slots_append m xs ys h.1 k)

slots_one : (o : ResolvedOccurs) (n m : ℕ) → n < m → AreNumberedBelow m (table_of o n)
slots_one Once n m h = tt
slots_one (Fixed k) n m h = tt
slots_one (Varying least most count) n m h = (h, tt)

pub slots : (f : Forest Resolved) (n m : ℕ) → AreNumbered n f → n + entries_in f ≤ m → AreNumberedBelow m (tables_of f)
slots NoEntries n m h l = tt
slots (AnEntry e children more) n m h l =
    let first = slots_one e.occurs e.number m (omega (arith, h.0, l)) in
    let below = slots children (n + 1) m h.1 (omega (arith, l)) in
    let beside = slots more (n + 1 + entries_in children) m h.2 (omega (arith, l)) in
    slots_append m (table_of e.occurs e.number) (tables_of children ++ tables_of more) first (slots_append m (tables_of children) (tables_of more) below beside)

-- ---- under them each entry occurs as often as at most

-- both numbers of times are the same for each entry
abbrev pub AreSame : (Resolved → ℕ) → (Resolved → ℕ) → Forest Resolved → Type 0
AreSame c d NoEntries = Unit {0}
AreSame c d (AnEntry e children more) = (c e ≡ d e) × AreSame c d children × AreSame c d more

most_times : (o : ResolvedOccurs) → times_by (varying o) o ≡ greatest_number_by o
most_times Once = refl
most_times (Fixed n) = refl
most_times (Varying least most count) = omega arith

most_one : (o : ResolvedOccurs) (front rest : List ℕ) (n : ℕ) → n ≡ length front → times_by (slice_index (front ++ varying o ∷ rest) n) o ≡ greatest_number_by o
most_one o front rest n e =
    ap (λ (i : ℕ). times_by (slice_index (front ++ varying o ∷ rest) i) o) e
    ∙ ap (λ (v : ℕ). times_by v o) (get_or-append_seam front (varying o) rest 0)
    ∙ most_times o

all_most : (f : Forest Resolved) (front back : List ℕ) (n : ℕ) → n ≡ length front → AreNumbered n f → AreSame (times (front ++ (in_order f ++ back))) greatest_number f
all_most NoEntries front back n l h = tt
all_most (AnEntry e children more) front back n l h =
    let v = varying e.occurs in
    let next = front ++ v ∷ [] in
    let far = next ++ in_order children in
    let m : n + 1 ≡ length next = omega (arith, l, one_longer front v) in
    let k : n + 1 + entries_in children ≡ length far = omega (arith, m, length-append next (in_order children), length_in_order children) in
    let whole = in_order children ++ (in_order more ++ back) in
    let back_is : front ++ v ∷ whole ≡ front ++ (v ∷ (in_order children ++ in_order more) ++ back)
    = ap (λ (c : List ℕ). front ++ v ∷ c) (sym (append_assoc (in_order children) (in_order more) back)) in
    let below_is : next ++ whole ≡ front ++ v ∷ whole = append_assoc front (v ∷ []) whole in
    let beside_is : far ++ (in_order more ++ back) ≡ next ++ whole = append_assoc next (in_order children) (in_order more ++ back) in
    let first = most_one e.occurs front ((in_order children ++ in_order more) ++ back) e.number (h.0 ∙ l) in
    let below = subst (λ (c : List ℕ). AreSame (times c) greatest_number children) (below_is ∙ back_is) (all_most children next (in_order more ++ back) (n + 1) m h.1) in
    let beside = subst (λ (c : List ℕ). AreSame (times c) greatest_number more) (beside_is ∙ below_is ∙ back_is) (all_most more far back (n + 1 + entries_in children) k h.2) in
    (first, below, beside)

sum_same : (c d : Resolved → ℕ) (f : Forest Resolved) → AreSame c d f → sum_of c f ≡ sum_of d f
sum_same c d NoEntries h = refl
sum_same c d (AnEntry e children more) h =
    let k = h.0 in
    let b = sum_same c d children h.1 in
    let r = sum_same c d more h.2 in
    λ j. own_length e.redefines (k j * length_by_kind e.kind (b j)) + r j

-- then each entry stands in one place
pub find_same : (c d : Resolved → ℕ) (number : ℕ) (f : Forest Resolved) (at area : ℕ) (subscripts : List ℕ) → AreSame c d f
    → place_of c number f at area subscripts ≡ place_of d number f at area subscripts
find_same c d number NoEntries at area subscripts h = refl
find_same c d number (AnEntry e children more) at area subscripts h =
    let k = h.0 in
    let b = sum_same c d children h.1 in
    let table = is_table e.occurs in
    let start = begins e.redefines at area in
    let skip = skipped table (greatest_number e) subscripts in
    λ j.
    or_else
    (choose (e.number == number) (record { offset = start + skip * length_by_kind e.kind (b j); length = length_by_kind e.kind (b j); within = is_there table (k j) subscripts })
    (also (is_there table (k j) subscripts) (find_same c d number children (start + skip * length_by_kind e.kind (b j)) (start + skip * length_by_kind e.kind (b j)) (later table subscripts) h.1 j)))
    (find_same c d number more (at + own_length e.redefines (k j * length_by_kind e.kind (b j))) start subscripts h.2 j)

-- under its greatest counts each entry of a record occurs as often as at most
pub are_most : (t : Forest Resolved) (counts : List ℕ) → AreNumbered 0 t → counts ≡ greatest_counts t → AreSame (times counts) greatest_number t
are_most t counts h e =
    let is : in_order t ++ [] ≡ counts = append-nil (in_order t) ∙ sym (greatest_is t h) ∙ sym e in
    subst (λ (c : List ℕ). AreSame (times c) greatest_number t) is (all_most t [] [] 0 refl h)

-- and so its lengths and places are the greatest ones
pub are_greatest : (t : Forest Resolved) (counts : List ℕ) → AreNumbered 0 t → counts ≡ greatest_counts t → AreGreatest t counts
are_greatest t counts h e =
    let all = are_most t counts h e in
    record {
      length = sum_same (times counts) greatest_number t all;
      places = λ number subscripts. find_same (times counts) greatest_number number t 0 0 subscripts all;
    }
