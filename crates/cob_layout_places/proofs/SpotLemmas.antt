-- Spots, written part by part.
use Rattle.std.proofs.Common.{◌≡◌, ℕ, zero, suc, ◌+◌, ◌*◌, ◌<◌, ◌≤◌, List, [], ◌∷◌, ◌++◌, length, get_or, take, drop, refl, sym, ap, ◌∙◌, arith, append-nil, append_assoc, Option}
use Rattle.std.proofs.Math.Seq.{get_or-append_seam}
use Rattle.std.proofs.lemmas.List.{length-append, length-take-le, drop_all, take_all, drop_at, take_at, drop-drop, length-drop, drop-append-le, take-append-drop}
use Rattle.std.specs.Prelude.{slice_set}
use borrow.Rule.Slice.PartMut.{put_mid, mid_of}
use Rattle.cob_copybook_tree.specs.declared.node.Node.{Node}
use Rattle.cob_copybook_tree.specs.declared.node.Node.TheViews.{out-Node}
use Rattle.cob_copybook_tree.specs.Forests.{Forest, NoEntries, AnEntry, Tree, entries_in}
use Rattle.cob_copybook_tree.specs.Nodes.{Resolved, node, tree_of}
use Rattle.cob_copybook_tree.specs.Lengths.{element_length, whole_length, own_length}
use Rattle.cob_layout_places.specs.declared.spots.Spot.{Spot}
use Rattle.cob_layout_places.specs.Places.{begins}
use Rattle.cob_layout_places.specs.Spots.{spots_of}
use Rattle.cob_layout_places.proofs.ForestLemmas.{left, left_is, redefines_of}
use Rattle.cob_layout_places.proofs.PlaceLemmas.{begins_same}

-- the spots of one entry and of those beneath it, which begins at `start`
abbrev pub spots_one : (Resolved → ℕ) → Tree Resolved → ℕ → List Spot
spots_one c t start = record { offset = start; length = element_length c t.top t.beneath; times = c t.top } ∷ spots_of c t.beneath start start

-- so are those of its tree
pub spots_alone : (c : Resolved → ℕ) (n : Node) (start : ℕ) → spots_of c (tree_of n) start start ≡ spots_one c (node n) start
spots_alone c n start =
    ap (λ (zs : List Spot). record { offset = begins (node n).top.redefines start start; length = element_length c (node n).top (node n).beneath; times = c (node n).top } ∷ zs)
    (append-nil (spots_of c (node n).beneath (begins (node n).top.redefines start start) (begins (node n).top.redefines start start)))
    ∙ ap (λ (m : ℕ). spots_one c (node n) m) (begins_same (node n).top.redefines start)

-- there is one for each entry
pub length_spots : (c : Resolved → ℕ) (f : Forest Resolved) (at area : ℕ) → length (spots_of c f at area) ≡ entries_in f
length_spots c NoEntries at area = refl
length_spots c (AnEntry e children more) at area =
    let start = begins e.redefines at area in
    omega (
      arith,
      length-append (spots_of c children start start) (spots_of c more (at + own_length e.redefines (whole_length c e children)) start),
      length_spots c children start start,
      length_spots c more (at + own_length e.redefines (whole_length c e children)) start,
    )

-- what a list is, once `one`, of length c, has been written into it from a on
pub record Grown {X : Type 0} (a c : ℕ) (xs one new : List X) : Type 0 where
  pub long : length new ≡ length xs
  pub kept : drop (a + c) new ≡ drop (a + c) xs
  pub same : drop 1 (take (a + c) new) ≡ drop 1 (take a xs) ++ one
  pub all : new ≡ take a xs ++ (one ++ drop (a + c) xs)

pub grown : {X : Type 0} (a k c : ℕ) (xs ys one : List X) → 1 ≤ a → a + k ≡ length xs → length one ≡ c → c ≤ k → ys ≡ one ++ drop c (mid_of a k xs) → Grown a c xs one (put_mid a k xs ys)
grown {X} a k c xs ys one some all long fits is =
    let le : a ≤ length xs = omega (arith, all) in
    let front : length (take a xs) ≡ a = length-take-le a xs le in
    let behind : length (drop a xs) ≤ k = omega (arith, length-drop a xs, all) in
    let mid : mid_of a k xs ≡ drop a xs = take_all k (drop a xs) behind in
    let rest : drop c (mid_of a k xs) ≡ drop (a + c) xs = ap (drop c) mid ∙ drop-drop c a xs in
    let none : drop k (drop a xs) ≡ [] = drop_all k (drop a xs) behind in
    let new_is : put_mid a k xs ys ≡ take a xs ++ (one ++ drop (a + c) xs) =
    ap (λ (zs : List X). take a xs ++ (ys ++ zs)) none
    ∙ ap (λ (zs : List X). take a xs ++ zs) (append-nil ys ∙ is ∙ ap (λ (zs : List X). one ++ zs) rest) in
    let apart : put_mid a k xs ys ≡ (take a xs ++ one) ++ drop (a + c) xs = new_is ∙ sym (append_assoc (take a xs) one (drop (a + c) xs)) in
    let seam : length (take a xs ++ one) ≡ a + c = omega (arith, length-append (take a xs) one, front, long) in
    record {
      long = ap length apart ∙ omega (arith, length-append (take a xs ++ one) (drop (a + c) xs), seam, length-drop (a + c) xs, all);
      kept = ap (drop (a + c)) apart ∙ drop_at (take a xs ++ one) (drop (a + c) xs) (a + c) seam;
      same = ap (λ (zs : List X). drop 1 (take (a + c) zs)) apart ∙ ap (drop 1) (take_at (take a xs ++ one) (drop (a + c) xs) (a + c) seam)
          ∙ drop-append-le 1 (take a xs) one (omega (arith, front));
      all = new_is;
    }

-- the first of those that were written
pub first_written : {X : Type 0} (a c : ℕ) (xs rest new : List X) (x d : X) → a ≤ length xs → Grown a c xs (x ∷ rest) new → get_or new a d ≡ x
first_written {X} a c xs rest new x d le g =
    ap (λ (zs : List X). get_or zs a d) g.all
    ∙ ap (λ (n : ℕ). get_or (take a xs ++ x ∷ (rest ++ drop (a + c) xs)) n d) (sym (length-take-le a xs le))
    ∙ get_or-append_seam (take a xs) x (rest ++ drop (a + c) xs) d

-- the spots of the entries that are left are those of the next one and of those behind it
pub spots_left : (c : Resolved → ℕ) (children : List Node) (k : ℕ) (n : Node) (at area begin step : ℕ) → k < length children → n ≡ get_or children k n
    → begin ≡ begins (out-Node n).redefines at area → step ≡ own_length (out-Node n).redefines (whole_length c (node n).top (node n).beneath)
    → spots_of c (left children k) at area ≡ spots_one c (node n) begin ++ spots_of c (left children (k + 1)) (at + step) begin
spots_left c children k n at area begin step lt is b q =
    ap (λ (f : Forest Resolved). spots_of c f at area) (left_is children k n lt is)
    ∙ ap (λ (o : Option (List ℕ)). spots_one c (node n) (begins o at area) ++ spots_of c (left children (k + 1)) (at + own_length o (whole_length c (node n).top (node n).beneath)) (begins o at area)) (redefines_of n)
    ∙ ap (λ (m : ℕ). spots_one c (node n) (begins (out-Node n).redefines at area) ++ spots_of c (left children (k + 1)) (at + m) (begins (out-Node n).redefines at area)) (sym q)
    ∙ ap (λ (m : ℕ). spots_one c (node n) m ++ spots_of c (left children (k + 1)) (at + step) m) (sym b)

-- and so are they, once those of the next one have been written
pub spots_written : (xs one ys zs all : List Spot) (front : List Spot) → xs ≡ front ++ one → front ++ ys ≡ all → ys ≡ one ++ zs → xs ++ zs ≡ all
spots_written xs one ys zs all front is before cut = ap (λ (l : List Spot). l ++ zs) is ∙ append_assoc front one zs ∙ ap (λ (l : List Spot). front ++ l) (sym cut) ∙ before

-- the first of a list is set, and the others are as they were written
pub first_set : (xs old : List Spot) (n : ℕ) (x : Spot) (all : List Spot) → 1 ≤ n → n ≤ length xs → drop n xs ≡ drop n old → drop 1 (take n xs) ++ [] ≡ all → slice_set xs 0 x ≡ x ∷ (all ++ drop n old)
first_set [] old n x all some le kept same = absurd (omega (arith, some, le))
first_set (y ∷ xs) old n x all some le kept same = by n some kept same
  where
    by : (n : ℕ) → 1 ≤ n → drop n (y ∷ xs) ≡ drop n old → drop 1 (take n (y ∷ xs)) ++ [] ≡ all → x ∷ xs ≡ x ∷ (all ++ drop n old)
    by zero some kept same = absurd (omega (arith, some))
    by (suc m) some kept same = ap (λ (l : List Spot). x ∷ l) (sym (take-append-drop m xs) ∙ ap (λ (l : List Spot). l ++ drop m xs) (sym (append-nil (take m xs)) ∙ same) ∙ ap (λ (l : List Spot). all ++ l) kept)

-- what a list is, once the spots of an entry and of those beneath it have been written into it from `next` on
pub record Put (c : Resolved → ℕ) (n : Node) (next count begin : ℕ) (old new : List Spot) : Type 0 where
  pub grown : Grown next count old (spots_one c (node n) begin) new
  pub size : (d : Spot) → (get_or new next d).times * (get_or new next d).length ≡ whole_length c (node n).top (node n).beneath

pub put : (c : Resolved → ℕ) (n : Node) (next k count begin : ℕ) (old part : List Spot) → 1 ≤ next → next + k ≡ length old → count ≤ k → count ≡ 1 + entries_in (node n).beneath
    → part ≡ spots_of c (tree_of n) begin begin ++ drop count (mid_of next k old) → Put c n next count begin old (put_mid next k old part)
put c n next k count begin old part some all fits many is =
    let long : length (spots_one c (node n) begin) ≡ count = omega (arith, many, length_spots c (node n).beneath begin begin) in
    let g = grown next k count old part (spots_one c (node n) begin) some all long fits (is ∙ ap (λ (zs : List Spot). zs ++ drop count (mid_of next k old)) (spots_alone c n begin)) in
    record {
      grown = g;
      size = λ d.
          ap (λ (x : Spot). x.times * x.length)
          (first_written next count old (spots_of c (node n).beneath begin begin) (put_mid next k old part) (record { offset = begin; length = element_length c (node n).top (node n).beneath; times = c (node n).top }) d (omega (arith, all)) g);
    }
