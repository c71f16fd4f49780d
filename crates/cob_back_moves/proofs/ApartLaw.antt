-- In a record without redefinitions, two occurrences of items that aren't one stand apart.
use Rattle.std.proofs.Common.{◌≡◌, ◌⊎◌, ℕ, ◌+◌, ◌-◌, ◌*◌, ◌<◌, ◌≤◌, ◌==◌, Bool, true, false, ◌&&◌, min, List, [], ◌∷◌, Option, Some, None, refl, sym, ap, subst, ◌∙◌, arith, inl, inr}
use Rattle.std.proofs.lemmas.Bool.{cases_lt}
use Rattle.std.proofs.lemmas.Bool.Decides.{nat_tests}
use Rattle.cob_copybook_tree.specs.declared.node.Kind.{Kind}
use Rattle.cob_copybook_tree.specs.declared.node.Kind.TheVariants.{Group, Item as ItemKind}
use Rattle.cob_copybook_tree.specs.declared.node.Item.{Item}
use Rattle.cob_copybook_tree.specs.Forests.{Forest, NoEntries, AnEntry, entries_in}
use Rattle.cob_copybook_tree.specs.Nodes.{Resolved, MayHold}
use Rattle.cob_copybook_tree.specs.Lengths.{greatest_number, length_by_kind, own_length, element_length, whole_length, sum_of}
use Rattle.cob_layout_places.specs.declared.places.Found.{Found}
use Rattle.cob_layout_places.specs.Lengths.{AreLeaves, MayOccur}
use Rattle.cob_layout_places.specs.Places.{place_of, or_else, choose, also, begins, is_table, is_there, later, skipped}
use Rattle.cob_layout_places.specs.Cover.{AreNumbered}
use Rattle.cob_layout_places.specs.Counts.{kind_in}
use Rattle.cob_layout_places.specs.References.{IsSubscripted, Refers}
use Rattle.cob_copybook.specs.Books.{IsRecordDescription}
use Rattle.cob_layout.specs.Sound.{RecordsAreSound}
use Rattle.cob_layout.proofs.EndLemmas.{some_is, pick, numbered, same, differs, found_has}
use Rattle.cob_layout.proofs.ReferenceLemmas.{found_there, refers_has}
use Rattle.cob_back_moves.specs.Apart.{AreApart, OccurrencesApart, RedefineNone}

-- ---- a place lies within the bytes of its row

product : (x k g : ℕ) → x + 1 ≤ k → x * g + g ≤ k * g
product x k g le = grind arith

skipped_less : (t : Bool) (n : ℕ) (subscripts : List ℕ) → 0 < n → skipped t n subscripts + 1 ≤ n
skipped_less false n subscripts h = omega (arith, h)
skipped_less true n [] h = omega (arith, h)
skipped_less true n (s ∷ subscripts) h = omega (arith, h)

beneath : (k : Kind) (children : Forest Resolved) → MayHold k children → sum_of greatest_number children ≤ length_by_kind k (sum_of greatest_number children)
beneath Group children leaf = omega arith
beneath (ItemKind i) NoEntries leaf = omega arith
beneath (ItemKind i) (AnEntry e children more) leaf = absurd leaf

begins_own : (o : Option (List ℕ)) (at area : ℕ) → o ≡ None → begins o at area ≡ at
begins_own None at area e = refl
begins_own (Some name) at area e = cc

owns : (o : Option (List ℕ)) (n : ℕ) → o ≡ None → own_length o n ≡ n
owns None n e = refl
owns (Some name) n e = cc

-- a place between two offsets
abbrev Between : ℕ → ℕ → Found → Type 0
Between low high p = (low ≤ p.offset) × (p.offset + p.length ≤ high)

inside : (r : ℕ) (f : Forest Resolved) (at area : ℕ) (subscripts : List ℕ) (p : Found) → RedefineNone f → AreLeaves f → MayOccur f
    → place_of greatest_number r f at area subscripts ≡ Some p → Between at (at + sum_of greatest_number f) p
inside r NoEntries at area subscripts p none leaves may is = cc
inside r (AnEntry e children more) at area subscripts p none leaves may is =
    let start : ℕ = begins e.redefines at area in
    let table : Bool = is_table e.occurs in
    let size : ℕ = element_length greatest_number e children in
    let w : ℕ = whole_length greatest_number e children in
    let offset : ℕ = start + skipped table (greatest_number e) subscripts * size in
    let there : Bool = is_there table (greatest_number e) subscripts in
    let inner : List ℕ = later table subscripts in
    let next_at : ℕ = at + own_length e.redefines w in
    let starts : start ≡ at = begins_own e.redefines at area none.0 in
    let takes : own_length e.redefines w ≡ w = owns e.redefines w none.0 in
    let fits : skipped table (greatest_number e) subscripts * size + size ≤ w =
    product (skipped table (greatest_number e) subscripts) (greatest_number e) size (skipped_less table (greatest_number e) subscripts may.0) in
    elim (pick (e.number == r) (record { offset = offset; length = size; within = there }) there (place_of greatest_number r children offset offset inner) (place_of greatest_number r more next_at start subscripts) p is) [
      | inl h ↦
          let low : offset ≡ p.offset = ap (λ (x : Found). x.offset) h.1 in
          let long : size ≡ p.length = ap (λ (x : Found). x.length) h.1 in
          (omega (arith, low, starts), omega (arith, low, long, starts, takes, fits))
      | inr rest ↦ elim rest [
        | inl h ↦
            let found : Found = h.0 in
            let is_p : record { offset = found.offset; length = found.length; within = there && found.within } ≡ p = some_is (record { offset = found.offset; length = found.length; within = there && found.within }) p h.3 in
            let low : found.offset ≡ p.offset = ap (λ (x : Found). x.offset) is_p in
            let long : found.length ≡ p.length = ap (λ (x : Found). x.length) is_p in
            let (a, b) = inside r children offset offset inner found none.1 leaves.1 may.1 h.2 in
            let room : sum_of greatest_number children ≤ size = beneath e.kind children leaves.0 in
            (omega (arith, low, starts, a), omega (arith, low, long, starts, takes, fits, b, room))
        | inr h ↦
            let (a, b) = inside r more next_at start subscripts p none.2 leaves.2 may.2 h.2 in
            (omega (arith, takes, a), omega (arith, takes, b))
      ]
    ]

-- ---- where an item stands

-- the entry is the first one, or beneath it: within the element that the subscripts mean
record First (r : ℕ) (rs : List ℕ) (e : Resolved) (children : Forest Resolved) (at : ℕ) (p : Found) : Type 0 where
  subscripted : IsSubscripted (is_table e.occurs) (greatest_number e) rs
  which : ((e.number ≡ r) × (later (is_table e.occurs) rs ≡ []) × (p.offset ≡ at + skipped (is_table e.occurs) (greatest_number e) rs * element_length greatest_number e children)
      × (p.length ≡ element_length greatest_number e children))
      ⊎ ((f : Found) × Refers r (later (is_table e.occurs) rs) children
      × (place_of greatest_number r children (at + skipped (is_table e.occurs) (greatest_number e) rs * element_length greatest_number e children)
      (at + skipped (is_table e.occurs) (greatest_number e) rs * element_length greatest_number e children) (later (is_table e.occurs) rs) ≡ Some f)
      × (p.offset ≡ f.offset) × (p.length ≡ f.length))

-- or among those beside it
record Beside (r : ℕ) (rs : List ℕ) (e : Resolved) (children more : Forest Resolved) (at : ℕ) (p : Found) : Type 0 where
  refers : Refers r rs more
  is : place_of greatest_number r more (at + whole_length greatest_number e children) at rs ≡ Some p

stands : (r n : ℕ) (rs : List ℕ) (e : Resolved) (children more : Forest Resolved) (at area : ℕ) (p : Found) → e.redefines ≡ None → AreNumbered n (AnEntry e children more)
    → Refers r rs (AnEntry e children more) → place_of greatest_number r (AnEntry e children more) at area rs ≡ Some p
    → First r rs e children at p ⊎ Beside r rs e children more at p
stands r n rs e children more at area p none num ref is =
    let start : ℕ = begins e.redefines at area in
    let table : Bool = is_table e.occurs in
    let size : ℕ = element_length greatest_number e children in
    let w : ℕ = whole_length greatest_number e children in
    let skip : ℕ = skipped table (greatest_number e) rs in
    let offset : ℕ = start + skip * size in
    let there : Bool = is_there table (greatest_number e) rs in
    let inner : List ℕ = later table rs in
    let next_at : ℕ = at + own_length e.redefines w in
    let starts : start ≡ at = begins_own e.redefines at area none in
    let takes : own_length e.redefines w ≡ w = owns e.redefines w none in
    let moved : offset ≡ at + skip * size = ap (λ (x : ℕ). x + skip * size) starts in
    elim (pick (e.number == r) (record { offset = offset; length = size; within = there }) there (place_of greatest_number r children offset offset inner) (place_of greatest_number r more next_at start rs) p is) [
      | inl h ↦
          let this : e.number ≡ r = same e.number r h.0 in
          let low : offset ≡ p.offset = ap (λ (x : Found). x.offset) h.1 in
          let long : size ≡ p.length = ap (λ (x : Found). x.length) h.1 in
          elim ref [
            | inl s ↦ elim (s.1) [
              | inl own ↦ inl (record { subscripted = s.0; which = inl (this, own.1, sym low ∙ moved, sym long) })
              | inr in_kids ↦ absurd (omega (arith, (numbered r (n + 1) children num.1 (refers_has r inner children in_kids)).0, num.0, this))
            ]
            | inr beside ↦ absurd (omega (arith, (numbered r (n + 1 + entries_in children) more num.2 (refers_has r rs more beside)).0, num.0, this))
          ]
      | inr rest ↦ elim rest [
        | inl h ↦
            let found : Found = h.0 in
            let is_p : record { offset = found.offset; length = found.length; within = there && found.within } ≡ p = some_is (record { offset = found.offset; length = found.length; within = there && found.within }) p h.3 in
            let low : found.offset ≡ p.offset = ap (λ (x : Found). x.offset) is_p in
            let long : found.length ≡ p.length = ap (λ (x : Found). x.length) is_p in
            elim ref [
              | inl s ↦ elim (s.1) [
                | inl own ↦ absurd (differs e.number r h.1 own.0)
                | inr in_kids ↦ inl (record {
                  subscripted = s.0;
                  which = inr (found, in_kids, ap (λ (x : ℕ). place_of greatest_number r children x x inner) (sym moved) ∙ h.2, sym low, sym long);
                })
              ]
              | inr beside ↦
                  let a = numbered r (n + 1) children num.1 (found_has greatest_number r children offset offset inner found h.2) in
                  let b = numbered r (n + 1 + entries_in children) more num.2 (refers_has r rs more beside) in
                  absurd (omega (arith, a.1, b.0))
            ]
        | inr h ↦ elim ref [
          | inl s ↦ elim (s.1) [
            | inl own ↦ absurd (differs e.number r h.0 own.0)
            | inr in_kids ↦ absurd (found_there greatest_number r children offset offset inner (refers_has r inner children in_kids) h.1)
          ]
          | inr beside ↦ inr (record {
            refers = beside;
            is = ap (λ (x : ℕ). place_of greatest_number r more x at rs) (ap (λ (x : ℕ). at + x) (sym takes))
                ∙ ap (λ (x : ℕ). place_of greatest_number r more next_at x rs) (sym starts) ∙ h.2;
          })
        ]
      ]
    ]

-- the element that the subscripts mean
abbrev Element : Resolved → Forest Resolved → ℕ → ℕ → Found → Type 0
Element e children at skip p =
    Between (at + skip * element_length greatest_number e children) (at + skip * element_length greatest_number e children + element_length greatest_number e children) p

in_element : (r : ℕ) (rs : List ℕ) (e : Resolved) (children : Forest Resolved) (at : ℕ) (p : Found) → RedefineNone children → MayHold e.kind children → AreLeaves children → MayOccur children
    → First r rs e children at p → Element e children at (skipped (is_table e.occurs) (greatest_number e) rs) p
in_element r rs e children at p none leaf leaves may first = elim first.which [
  | inl own ↦ (omega (arith, own.2), omega (arith, own.2, own.3))
  | inr kid ↦
      let (a, b) = inside r children _ _ (later (is_table e.occurs) rs) kid.0 none leaves may kid.2 in
      (omega (arith, a, kid.3), omega (arith, b, kid.3, kid.4, beneath e.kind children leaf))
]

-- ---- two of them

swapped : (p q : Found) → AreApart p q → AreApart q p
swapped p q (inl h) = inr h
swapped p q (inr h) = inl h

elements_apart : (k l g : ℕ) → k < l → k * g + g ≤ l * g
elements_apart k l g lt = product k l g (omega (arith, lt))

other_elements : (e : Resolved) (children : Forest Resolved) (at k l : ℕ) (p q : Found) → Element e children at k p → Element e children at l q → k < l → AreApart p q
other_elements e children at k l p q a b lt = inl (omega (arith, a.1, b.0, elements_apart k l (element_length greatest_number e children) lt))

row_apart : (e : Resolved) (children : Forest Resolved) (at k high : ℕ) (p q : Found) → k + 1 ≤ greatest_number e → Element e children at k p
    → Between (at + whole_length greatest_number e children) high q → AreApart p q
row_apart e children at k high p q le a b = inl (omega (arith, a.1, b.0, product k (greatest_number e) (element_length greatest_number e children) le))

-- the subscripts of one element differ in what is left of them
same_rest : (t : Bool) (n : ℕ) (rs qs : List ℕ) → IsSubscripted t n rs → IsSubscripted t n qs → skipped t n rs ≡ skipped t n qs → later t rs ≡ later t qs → rs ≡ qs
same_rest false n rs qs a b k e = e
same_rest true n [] qs a b k e = absurd a
same_rest true n (s ∷ rs) [] a b k e = absurd b
same_rest true n (s ∷ rs) (t ∷ qs) a b k e =
    let first : s ≡ t = omega (arith, a.0, a.1, b.0, b.1, k) in
    (λ j. first j ∷ e j)

-- ---- what the entry describes

some_kind : (a b : Kind) → Some a ≡ Some b → a ≡ b
some_kind a b e = cc

pub is_same : (a b : ℕ) → a ≡ b → (a == b) ≡ true
is_same a b h = grind (arith, nat_tests)

pub is_other : (a b : ℕ) → (a ≡ b → ⊥) → (a == b) ≡ false
is_other a b h = grind (arith, nat_tests)

pub own_kind : (r : ℕ) (e : Resolved) (children more : Forest Resolved) (k : Kind) → e.number ≡ r → kind_in r (AnEntry e children more) ≡ Some k → e.kind ≡ k
own_kind r e children more k this is =
    some_kind e.kind k (sym (ap (λ (b : Bool). or_else (choose b e.kind (kind_in r children)) (kind_in r more)) (is_same e.number r this)) ∙ is)

no_kids : (k : Kind) (i : Item) (children : Forest Resolved) (r : ℕ) (rs : List ℕ) → k ≡ ItemKind i → MayHold k children → Refers r rs children → ⊥
no_kids Group i children r rs e leaf ref = cc
no_kids (ItemKind j) i NoEntries r rs e leaf ref = ref
no_kids (ItemKind j) i (AnEntry d kids more) r rs e leaf ref = leaf

pub passed : (r : ℕ) (e : Resolved) (children more : Forest Resolved) → (e.number ≡ r → ⊥) → kind_in r (AnEntry e children more) ≡ or_else (kind_in r children) (kind_in r more)
passed r e children more other = ap (λ (b : Bool). or_else (choose b e.kind (kind_in r children)) (kind_in r more)) (is_other e.number r other)

pub past : (r n : ℕ) (f : Forest Resolved) → AreNumbered n f → (r < n) ⊎ (n + entries_in f ≤ r) → kind_in r f ≡ None
past r n NoEntries num h = refl
past r n (AnEntry e children more) num (inl low) =
    passed r e children more (λ this. omega (arith, this, low, num.0))
    ∙ ap (λ (o : Option Kind). or_else o (kind_in r more)) (past r (n + 1) children num.1 (inl (omega (arith, low))))
    ∙ past r (n + 1 + entries_in children) more num.2 (inl (omega (arith, low)))
past r n (AnEntry e children more) num (inr high) =
    passed r e children more (λ this. omega (arith, this, high, num.0))
    ∙ ap (λ (o : Option Kind). or_else o (kind_in r more)) (past r (n + 1) children num.1 (inr (omega (arith, high))))
    ∙ past r (n + 1 + entries_in children) more num.2 (inr (omega (arith, high)))

or_none : (o : Option Kind) → or_else o None ≡ o
or_none None = refl
or_none (Some k) = refl

pub kid_kind : (r n : ℕ) (rs : List ℕ) (e : Resolved) (children more : Forest Resolved) (k : Kind) → AreNumbered n (AnEntry e children more) → Refers r rs children
    → kind_in r (AnEntry e children more) ≡ Some k → kind_in r children ≡ Some k
kid_kind r n rs e children more k num ref is =
    let (low, high) = numbered r (n + 1) children num.1 (refers_has r rs children ref) in
    sym (passed r e children more (λ this. omega (arith, this, low, num.0))
    ∙ ap (or_else (kind_in r children)) (past r (n + 1 + entries_in children) more num.2 (inl (omega (arith, high))))
    ∙ or_none (kind_in r children)) ∙ is

pub more_kind : (r n : ℕ) (rs : List ℕ) (e : Resolved) (children more : Forest Resolved) (k : Kind) → AreNumbered n (AnEntry e children more) → Refers r rs more
    → kind_in r (AnEntry e children more) ≡ Some k → kind_in r more ≡ Some k
more_kind r n rs e children more k num ref is =
    let (low, high) = numbered r (n + 1 + entries_in children) more num.2 (refers_has r rs more ref) in
    sym (passed r e children more (λ this. omega (arith, this, low, num.0))
    ∙ ap (λ (o : Option Kind). or_else o (kind_in r more)) (past r (n + 1) children num.1 (inr (omega (arith, low))))) ∙ is

-- ---- one of two

order : (a b : ℕ) → (a < b) ⊎ ((a ≡ b) ⊎ (b < a))
order a b = elim (cases_lt a b) [
  | inl lt ↦ inl lt
  | inr ge ↦ elim (cases_lt b a) [ inl lt ↦ inr (inr lt) | inr le ↦ inr (inl (omega (arith, ge, le))) ]
]

moved_apart : (a b c d : Found) → a.offset ≡ c.offset → a.length ≡ c.length → b.offset ≡ d.offset → b.length ≡ d.length → AreApart c d → AreApart a b
moved_apart a b c d o l p m (inl h) = inl (omega (arith, o, l, p, h))
moved_apart a b c d o l p m (inr h) = inr (omega (arith, o, p, m, h))

-- what holds of a row of entries
record IsRow (n : ℕ) (f : Forest Resolved) : Type 0 where
  numbers : AreNumbered n f
  own : RedefineNone f
  leaves : AreLeaves f
  possible : MayOccur f

-- an item of a row, and its place
record IsThere (f : Forest Resolved) (at area r : ℕ) (rs : List ℕ) (p : Found) : Type 0 where
  refers : Refers r rs f
  item : Item
  kind : kind_in r f ≡ Some (ItemKind item)
  place : place_of greatest_number r f at area rs ≡ Some p

-- two items of one row that aren't one stand apart
abbrev RowApart : ℕ → Forest Resolved → Type 0
RowApart n f = (at area r q : ℕ) (rs qs : List ℕ) (a b : Found) → IsRow n f → IsThere f at area r rs a → IsThere f at area q qs b → (r ≡ q → rs ≡ qs → ⊥) → AreApart a b

one_element : (n : ℕ) (e : Resolved) (children more : Forest Resolved) (at r q : ℕ) (rs qs : List ℕ) (a b : Found) → RowApart (n + 1) children → IsRow n (AnEntry e children more)
    → First r rs e children at a → First q qs e children at b → (i j : Item) → kind_in r (AnEntry e children more) ≡ Some (ItemKind i) → kind_in q (AnEntry e children more) ≡ Some (ItemKind j)
    → skipped (is_table e.occurs) (greatest_number e) rs ≡ skipped (is_table e.occurs) (greatest_number e) qs → (r ≡ q → rs ≡ qs → ⊥) → AreApart a b
one_element n e children more at r q rs qs a b beneath row first second i j r_is q_is same_skip other = elim first.which [
  | inl own ↦ elim second.which [
    | inl also_own ↦
        let one : rs ≡ qs = same_rest (is_table e.occurs) (greatest_number e) rs qs first.subscripted second.subscripted same_skip (own.1 ∙ sym also_own.1) in
        absurd (other (sym own.0 ∙ also_own.0) one)
    | inr kid ↦ absurd (no_kids e.kind i children q (later (is_table e.occurs) qs) (own_kind r e children more (ItemKind i) own.0 r_is) row.leaves.0 kid.1)
  ]
  | inr kid ↦ elim second.which [
    | inl own ↦ absurd (no_kids e.kind j children r (later (is_table e.occurs) rs) (own_kind q e children more (ItemKind j) own.0 q_is) row.leaves.0 kid.1)
    | inr too ↦
        let k : ℕ = at + skipped (is_table e.occurs) (greatest_number e) rs * element_length greatest_number e children in
        let same_start : at + skipped (is_table e.occurs) (greatest_number e) qs * element_length greatest_number e children ≡ k =
        ap (λ (x : ℕ). at + x * element_length greatest_number e children) (sym same_skip) in
        moved_apart a b kid.0 too.0 kid.3 kid.4 too.3 too.4
        (beneath k k r q (later (is_table e.occurs) rs) (later (is_table e.occurs) qs) kid.0 too.0
        (record { numbers = row.numbers.1; own = row.own.1; leaves = row.leaves.1; possible = row.possible.1 })
        (record { refers = kid.1; item = i; kind = kid_kind r n (later (is_table e.occurs) rs) e children more (ItemKind i) row.numbers kid.1 r_is; place = kid.2 })
        (record {
          refers = too.1;
          item = j;
          kind = kid_kind q n (later (is_table e.occurs) qs) e children more (ItemKind j) row.numbers too.1 q_is;
          place = ap (λ (x : ℕ). place_of greatest_number q children x x (later (is_table e.occurs) qs)) (sym same_start) ∙ too.2;
        })
        (λ same_number left. other same_number (same_rest (is_table e.occurs) (greatest_number e) rs qs first.subscripted second.subscripted same_skip left)))
  ]
]

apart : (n : ℕ) (f : Forest Resolved) → RowApart n f
apart n NoEntries at area r q rs qs a b row there too other = absurd there.refers
apart n (AnEntry e children more) at area r q rs qs a b row there too other =
    let none : e.redefines ≡ None = row.own.0 in
    let k : ℕ = skipped (is_table e.occurs) (greatest_number e) rs in
    let l : ℕ = skipped (is_table e.occurs) (greatest_number e) qs in
    let element = λ (x : ℕ) (xs : List ℕ) (p : Found) (first : First x xs e children at p). in_element x xs e children at p row.own.1 row.leaves.0 row.leaves.1 row.possible.1 first in
    let behind = λ (x : ℕ) (xs : List ℕ) (p : Found) (b : Beside x xs e children more at p).
    inside x more (at + whole_length greatest_number e children) at xs p row.own.2 row.leaves.2 row.possible.2 b.is in
    elim (stands r n rs e children more at area a none row.numbers there.refers there.place) [
      | inl first ↦ elim (stands q n qs e children more at area b none row.numbers too.refers too.place) [
        | inl second ↦ elim (order k l) [
          | inl lt ↦ other_elements e children at k l a b (element r rs a first) (element q qs b second) lt
          | inr rest ↦ elim rest [
            | inl same_skip ↦ one_element n e children more at r q rs qs a b (apart (n + 1) children) row first second there.item too.item there.kind too.kind same_skip other
            | inr gt ↦ swapped b a (other_elements e children at l k b a (element q qs b second) (element r rs a first) gt)
          ]
        ]
        | inr second ↦
            row_apart e children at k _ a b (skipped_less (is_table e.occurs) (greatest_number e) rs row.possible.0) (element r rs a first) (behind q qs b second)
      ]
      | inr first ↦ elim (stands q n qs e children more at area b none row.numbers too.refers too.place) [
        | inl second ↦
            swapped b a (row_apart e children at l _ b a (skipped_less (is_table e.occurs) (greatest_number e) qs row.possible.0) (element q qs b second) (behind r rs a first))
        | inr second ↦
            apart (n + 1 + entries_in children) more (at + whole_length greatest_number e children) at r q rs qs a b
            (record { numbers = row.numbers.2; own = row.own.2; leaves = row.leaves.2; possible = row.possible.2 })
            (record { refers = first.refers; item = there.item; kind = more_kind r n rs e children more (ItemKind there.item) row.numbers first.refers there.kind; place = first.is })
            (record { refers = second.refers; item = too.item; kind = more_kind q n qs e children more (ItemKind too.item) row.numbers second.refers too.kind; place = second.is })
            other
      ]
    ]

pub occurrences_apart : RecordsAreSound → OccurrencesApart
occurrences_apart sound t r q rs qs i j a b is none r_refers r_is q_refers q_is r_at q_at other =
    let s = sound t is in
    apart 0 t 0 0 r q rs qs a b (record { numbers = s.numbered; own = none; leaves = s.fit.leaves; possible = s.fit.possible })
    (record { refers = r_refers; item = i; kind = r_is; place = r_at }) (record { refers = q_refers; item = j; kind = q_is; place = q_at }) other
