-- Where a reference stands: at the first element of its entry, moved by its subscripts.
use Rattle.std.proofs.Common.{◌≡◌, ℕ, ◌+◌, ◌-◌, ◌*◌, ◌<◌, ◌≤◌, ◌==◌, ◌&&◌, nat_le, min, Bool, true, false, List, [], ◌∷◌, ◌++◌, length, get_or, Option, Some, None, refl, sym, ap, ◌∙◌, arith, inl, inr, append-nil, append_assoc}
use Rattle.std.proofs.Math.Seq.{get_or-append_seam}
use Rattle.std.proofs.lemmas.List.{length-append}
use Rattle.cob_copybook_tree.specs.declared.node.ResolvedOccurs.{ResolvedOccurs}
use Rattle.cob_copybook_tree.specs.declared.node.ResolvedOccurs.TheVariants.{Once, Fixed, Varying}
use Rattle.cob_copybook_tree.specs.Forests.{Forest, NoEntries, AnEntry, entries_in}
use Rattle.cob_copybook_tree.specs.Nodes.{Resolved}
use Rattle.cob_copybook_tree.specs.Lengths.{greatest_number, element_length, whole_length, own_length}
use Rattle.cob_layout_places.specs.declared.places.Found.{Found}
use Rattle.cob_layout_places.specs.declared.spots.Spot.{Spot}
use Rattle.cob_layout_places.specs.Places.{place_of, or_else, choose, also, begins, is_table, is_there, later, skipped}
use Rattle.cob_layout_places.specs.Cover.{AreNumbered}
use Rattle.cob_layout_places.specs.References.{IsSubscripted, Refers}
use Rattle.cob_layout_places.specs.Spots.{spots_of}
use Rattle.cob_layout_places.proofs.CoverLaw.{not_or}
use Rattle.cob_layout_places.proofs.SpotLemmas.{length_spots}
use Rattle.cob_layout.specs.Ways.{Held, held_in, own_table, spot_at, moved, first_element}
use Rattle.cob_layout.proofs.ReferenceLemmas.{refers_has}
use Rattle.cob_layout.proofs.EndLemmas.{numbered}
use Rattle.cob_layout.proofs.AreaLemmas.{absent, is_same, is_other}

pub one_longer : {X : Type 0} (front : List X) (x : X) → length (front ++ x ∷ []) ≡ length front + 1
one_longer front x = length-append front (x ∷ [])

-- ---- the spot of each entry stands by its number

abbrev pub AreSpots : List Spot → (Resolved → ℕ) → Forest Resolved → ℕ → ℕ → Type 0
AreSpots spots c NoEntries at area = Unit {0}
AreSpots spots c (AnEntry e children more) at area =
    let start = begins e.redefines at area in
    ((d : Spot) → get_or spots e.number d ≡ record { offset = start; length = element_length c e children; times = c e })
    × AreSpots spots c children start start × AreSpots spots c more (at + own_length e.redefines (whole_length c e children)) start

pub at_seam : {X : Type 0} (front back all : List X) (x d : X) (n : ℕ) → n ≡ length front → all ≡ front ++ x ∷ back → get_or all n d ≡ x
at_seam {X} front back all x d n is cut = ap (λ (zs : List X). get_or zs n d) cut ∙ ap (λ (k : ℕ). get_or (front ++ x ∷ back) k d) is ∙ get_or-append_seam front x back d

-- a list in three parts behind a front, and its first element and its parts each behind what comes before
pub first_part : {X : Type 0} (front a b back all : List X) (x : X) → all ≡ front ++ ((x ∷ (a ++ b)) ++ back) → all ≡ front ++ x ∷ ((a ++ b) ++ back)
first_part front a b back all x e = e

pub second_part : {X : Type 0} (front a b back all : List X) (x : X) → all ≡ front ++ ((x ∷ (a ++ b)) ++ back) → all ≡ (front ++ x ∷ []) ++ (a ++ (b ++ back))
second_part {X} front a b back all x e =
    e ∙ ap (λ (zs : List X). front ++ x ∷ zs) (append_assoc a b back) ∙ sym (append_assoc front (x ∷ []) (a ++ (b ++ back)))

pub third_part : {X : Type 0} (front a b back all : List X) (x : X) → all ≡ front ++ ((x ∷ (a ++ b)) ++ back) → all ≡ ((front ++ x ∷ []) ++ a) ++ (b ++ back)
third_part front a b back all x e = second_part front a b back all x e ∙ sym (append_assoc (front ++ x ∷ []) a (b ++ back))

pub are_spots : (c : Resolved → ℕ) (f : Forest Resolved) (n at area : ℕ) (front back all : List Spot) → n ≡ length front → AreNumbered n f → all ≡ front ++ (spots_of c f at area ++ back) → AreSpots all c f at area
are_spots c NoEntries n at area front back all is num cut = tt
are_spots c (AnEntry e children more) n at area front back all is num cut =
    let start = begins e.redefines at area in
    let next_at = at + own_length e.redefines (whole_length c e children) in
    let own : Spot = record { offset = start; length = element_length c e children; times = c e } in
    let inner = spots_of c children start start in
    let outer = spots_of c more next_at start in
    let next : n + 1 ≡ length (front ++ own ∷ []) = omega (arith, is, one_longer front own) in
    let last : n + 1 + entries_in children ≡ length ((front ++ own ∷ []) ++ inner) = omega (arith, next, length-append (front ++ own ∷ []) inner, length_spots c children start start) in (
      λ d. at_seam front ((inner ++ outer) ++ back) all own d e.number (num.0 ∙ is) (first_part front inner outer back all own cut),
      are_spots c children (n + 1) start start (front ++ own ∷ []) (outer ++ back) all next num.1 (second_part front inner outer back all own cut),
      are_spots c more (n + 1 + entries_in children) next_at start ((front ++ own ∷ []) ++ inner) back all last num.2 (third_part front inner outer back all own cut),
    )

-- ---- and so does what is held of it

abbrev pub AreHeld : List Held → List ℕ → Forest Resolved → Type 0
AreHeld all over NoEntries = Unit {0}
AreHeld all over (AnEntry e children more) =
    let own = over ++ own_table e.occurs e.number in
    ((d : Held) → get_or all e.number d ≡ record { tables = own; end = e.number + 1 + entries_in children })
    × AreHeld all own children × AreHeld all over more

pub length_held : (over : List ℕ) (f : Forest Resolved) → length (held_in over f) ≡ entries_in f
length_held over NoEntries = refl
length_held over (AnEntry e children more) =
    let own = over ++ own_table e.occurs e.number in
    omega (arith, length-append (held_in own children) (held_in over more), length_held own children, length_held over more)

pub are_held : (f : Forest Resolved) (n : ℕ) (over : List ℕ) (front back all : List Held) → n ≡ length front → AreNumbered n f → all ≡ front ++ (held_in over f ++ back) → AreHeld all over f
are_held NoEntries n over front back all is num cut = tt
are_held (AnEntry e children more) n over front back all is num cut =
    let own = over ++ own_table e.occurs e.number in
    let here : Held = record { tables = own; end = e.number + 1 + entries_in children } in
    let inner = held_in own children in
    let outer = held_in over more in
    let next : n + 1 ≡ length (front ++ here ∷ []) = omega (arith, is, one_longer front here) in
    let last : n + 1 + entries_in children ≡ length ((front ++ here ∷ []) ++ inner) = omega (arith, next, length-append (front ++ here ∷ []) inner, length_held own children) in (
      λ d. at_seam front ((inner ++ outer) ++ back) all here d e.number (num.0 ∙ is) (first_part front inner outer back all here cut),
      are_held children (n + 1) own (front ++ here ∷ []) (outer ++ back) all next num.1 (second_part front inner outer back all here cut),
      are_held more (n + 1 + entries_in children) over ((front ++ here ∷ []) ++ inner) back all last num.2 (third_part front inner outer back all here cut),
    )

-- ---- one subscript

and_true : (b : Bool) → (b && true) ≡ b
and_true true = refl
and_true false = refl

and_assoc : (a b c : Bool) → (a && (b && c)) ≡ ((a && b) && c)
and_assoc true b c = refl
and_assoc false b c = refl

table_step : (spots : List Spot) (n k size number : ℕ) (ts : List ℕ) (s : ℕ) (subscripts : List ℕ) (f : Found) → 0 < s → s ≤ n → (spot_at spots number).length ≡ size → (spot_at spots number).times ≡ k
    → moved spots (number ∷ ts) (s ∷ subscripts) f
    ≡ moved spots ts subscripts (record { offset = f.offset + min (s - 1) (n - 1) * size; length = f.length; within = f.within && nat_le s k })
table_step spots n k size number ts s subscripts f some le sized often =
    let m : s - 1 ≡ min (s - 1) (n - 1) = omega (arith, le) in
    λ i. moved spots ts subscripts (record { offset = f.offset + m i * sized i; length = f.length; within = f.within && nat_le s (often i) })

-- the subscript of a table moves an element, and no entry but a table has one
own_step : (spots : List Spot) (o : ResolvedOccurs) (n k size number : ℕ) (ts subscripts : List ℕ) (f : Found) → IsSubscripted (is_table o) n subscripts → (spot_at spots number).length ≡ size → (spot_at spots number).times ≡ k
    → moved spots (own_table o number ++ ts) subscripts f
    ≡ moved spots ts (later (is_table o) subscripts) (record { offset = f.offset + skipped (is_table o) n subscripts * size; length = f.length; within = f.within && is_there (is_table o) k subscripts })
own_step spots Once n k size number ts subscripts f sub sized often =
    let o : f.offset ≡ f.offset + 0 * size = omega arith in
    let w : f.within ≡ (f.within && true) = sym (and_true f.within) in
    λ i. moved spots ts subscripts (record { offset = o i; length = f.length; within = w i })
own_step spots (Fixed m) n k size number ts [] f sub sized often = absurd sub
own_step spots (Fixed m) n k size number ts (s ∷ subscripts) f sub sized often = table_step spots n k size number ts s subscripts f sub.0 sub.1 sized often
own_step spots (Varying least m count) n k size number ts [] f sub sized often = absurd sub
own_step spots (Varying least m count) n k size number ts (s ∷ subscripts) f sub sized often = table_step spots n k size number ts s subscripts f sub.0 sub.1 sized often

-- an element under another table, which is there or isn't
also_moved : (spots : List Spot) (b : Bool) (ts subscripts : List ℕ) (f : Found)
    → also b (Some (moved spots ts subscripts f)) ≡ Some (moved spots ts subscripts (record { offset = f.offset; length = f.length; within = b && f.within }))
also_moved spots b [] subscripts f = refl
also_moved spots b (t ∷ ts) [] f = refl
also_moved spots b (t ∷ ts) (s ∷ subscripts) f =
    let table = spot_at spots t in
    also_moved spots b ts subscripts (record { offset = f.offset + (s - 1) * table.length; length = f.length; within = f.within && nat_le s table.times })
    ∙ ap (λ (w : Bool). Some (moved spots ts subscripts (record { offset = f.offset + (s - 1) * table.length; length = f.length; within = w }))) (and_assoc b f.within (nat_le s table.times))

-- ---- a reference

pub found_own : (b : Bool) (f : Found) (o p : Option Found) → b ≡ true → or_else (choose b f o) p ≡ Some f
found_own b f o p e = rw e refl

pub found_kid : (b : Bool) (f : Found) (there : Bool) (o p : Option Found) (g : Found) → b ≡ false → o ≡ Some g → or_else (choose b f (also there o)) p ≡ also there (Some g)
found_kid b f there o p g e is = rw (e, is) refl

begins_further : (o : Option (List ℕ)) (at area d : ℕ) → begins o (at + d) (area + d) ≡ begins o at area + d
begins_further None at area d = refl
begins_further (Some name) at area d = refl

-- the first element of an entry, so much further
abbrev further : List Spot → ℕ → ℕ → Found
further spots r d = let own = spot_at spots r in record { offset = own.offset + d; length = own.length; within = true }

-- the tables between, and that the reference stands there
record Stood (spots : List Spot) (all : List Held) (over : List ℕ) (r d : ℕ) (subscripts : List ℕ) (o : Option Found) : Type 0 where
  tables : List ℕ
  held : (x : Held) → (get_or all r x).tables ≡ over ++ tables
  stands : o ≡ Some (moved spots tables subscripts (further spots r d))

abbrev pub nowhere : Spot
nowhere = record { offset = 0; length = 0; times = 0 }

stood : (c : Resolved → ℕ) (spots : List Spot) (all : List Held) (f : Forest Resolved) (n at area d : ℕ) (over subscripts : List ℕ) (r : ℕ) → AreNumbered n f → AreSpots spots c f at area → AreHeld all over f
    → Refers r subscripts f → Stood spots all over r d subscripts (place_of c r f (at + d) (area + d) subscripts)
stood c spots all NoEntries n at area d over subscripts r num sp hs refers = absurd refers
stood c spots all (AnEntry e children more) n at area d over subscripts r num sp hs (inl (sub, inl (own, none))) =
    let start : ℕ = begins e.redefines at area in
    let begin : ℕ = begins e.redefines (at + d) (area + d) in
    let size : ℕ = element_length c e children in
    let table : Bool = is_table e.occurs in
    let skip : ℕ = skipped table (greatest_number e) subscripts in
    let there : Bool = is_there table (c e) subscripts in
    let inner : List ℕ = later table subscripts in
    let here : Found = record { offset = begin + skip * size; length = size; within = there } in
    let spot : spot_at spots r ≡ record { offset = start; length = size; times = c e } = ap (λ (k : ℕ). spot_at spots k) (sym own) ∙ sp.0 nowhere in
    let spot_own : spot_at spots e.number ≡ record { offset = start; length = size; times = c e } = sp.0 nowhere in
    let step = own_step spots e.occurs (greatest_number e) (c e) size e.number [] subscripts (further spots r d) sub (ap (λ (x : Spot). x.length) spot_own) (ap (λ (x : Spot). x.times) spot_own) in
    let offset_is : begin + skip * size ≡ (spot_at spots r).offset + d + skip * size =
    omega (arith, begins_further e.redefines at area d, ap (λ (x : Spot). x.offset) spot) in
    let length_is : size ≡ (spot_at spots r).length = sym (ap (λ (x : Spot). x.length) spot) in
    record {
      tables = own_table e.occurs e.number ++ [];
      held = λ x. ap (λ (k : ℕ). (get_or all k x).tables) (sym own) ∙ ap (λ (h : Held). h.tables) (hs.0 x) ∙ ap (λ (ts : List ℕ). over ++ ts) (sym (append-nil (own_table e.occurs e.number)));
      stands = found_own (e.number == r) here (also there (place_of c r children (begin + skip * size) (begin + skip * size) inner)) (place_of c r more (at + d + own_length e.redefines (whole_length c e children)) begin subscripts) (is_same e.number r own)
          ∙ (λ i. Some (record { offset = offset_is i; length = length_is i; within = there }))
          ∙ ap (λ (g : Found). Some g) (sym step);
    }
stood c spots all (AnEntry e children more) n at area d over subscripts r num sp hs (inl (sub, inr inside)) =
    let start : ℕ = begins e.redefines at area in
    let begin : ℕ = begins e.redefines (at + d) (area + d) in
    let size : ℕ = element_length c e children in
    let table : Bool = is_table e.occurs in
    let skip : ℕ = skipped table (greatest_number e) subscripts in
    let there : Bool = is_there table (c e) subscripts in
    let inner : List ℕ = later table subscripts in
    let offset : ℕ = begin + skip * size in
    let here : Found = record { offset = offset; length = size; within = there } in
    let own = over ++ own_table e.occurs e.number in
    let low = numbered r (n + 1) children num.1 (refers_has r inner children inside) in
    let spot_own : spot_at spots e.number ≡ record { offset = start; length = size; times = c e } = sp.0 nowhere in
    let in_kids = stood c spots all children (n + 1) start start (d + skip * size) own inner r num.1 sp.1 hs.1 inside in
    let from : offset ≡ start + (d + skip * size) = omega (arith, begins_further e.redefines at area d) in
    let found : place_of c r children offset offset inner ≡ Some (moved spots in_kids.tables inner (further spots r (d + skip * size))) =
    ap (λ (m : ℕ). place_of c r children m m inner) from ∙ in_kids.stands in
    let step = own_step spots e.occurs (greatest_number e) (c e) size e.number in_kids.tables subscripts (further spots r d) sub (ap (λ (x : Spot). x.length) spot_own) (ap (λ (x : Spot). x.times) spot_own) in
    let offset_is : (spot_at spots r).offset + (d + skip * size) ≡ (spot_at spots r).offset + d + skip * size = omega arith in
    record {
      tables = own_table e.occurs e.number ++ in_kids.tables;
      held = λ x. in_kids.held x ∙ append_assoc over (own_table e.occurs e.number) in_kids.tables;
      stands = found_kid (e.number == r) here there (place_of c r children offset offset inner) (place_of c r more (at + d + own_length e.redefines (whole_length c e children)) begin subscripts)
          (moved spots in_kids.tables inner (further spots r (d + skip * size))) (is_other e.number r (λ same. omega (arith, low.0, num.0, same))) found
          ∙ also_moved spots there in_kids.tables inner (further spots r (d + skip * size))
          ∙ ap (λ (w : Bool). Some (moved spots in_kids.tables inner (record { offset = (spot_at spots r).offset + (d + skip * size); length = (spot_at spots r).length; within = w }))) (and_true there)
          ∙ ap (λ (m : ℕ). Some (moved spots in_kids.tables inner (record { offset = m; length = (spot_at spots r).length; within = there }))) offset_is
          ∙ ap (λ (g : Found). Some g) (sym step);
    }
stood c spots all (AnEntry e children more) n at area d over subscripts r num sp hs (inr beside) =
    let start : ℕ = begins e.redefines at area in
    let begin : ℕ = begins e.redefines (at + d) (area + d) in
    let size : ℕ = element_length c e children in
    let table : Bool = is_table e.occurs in
    let skip : ℕ = skipped table (greatest_number e) subscripts in
    let there : Bool = is_there table (c e) subscripts in
    let inner : List ℕ = later table subscripts in
    let offset : ℕ = begin + skip * size in
    let here : Found = record { offset = offset; length = size; within = there } in
    let taken : ℕ = own_length e.redefines (whole_length c e children) in
    let low = numbered r (n + 1 + entries_in children) more num.2 (refers_has r subscripts more beside) in
    let behind = stood c spots all more (n + 1 + entries_in children) (at + taken) start d over subscripts r num.2 sp.2 hs.2 beside in
    let from : at + d + taken ≡ at + taken + d = omega arith in
    record {
      tables = behind.tables;
      held = behind.held;
      stands = not_or (e.number == r) here (place_of c r children offset offset inner) (place_of c r more (at + d + taken) begin subscripts) there
          (is_other e.number r (λ same. omega (arith, low.0, num.0, same)))
          (absent c r children offset offset inner (λ has. omega (arith, low.0, (numbered r (n + 1) children num.1 has).1)))
          ∙ ap (λ (m : ℕ). place_of c r more m begin subscripts) from
          ∙ ap (λ (m : ℕ). place_of c r more (at + taken + d) m subscripts) (begins_further e.redefines at area d)
          ∙ behind.stands;
    }

-- a reference to an entry of a record stands at its first element, moved by its subscripts
pub stands_moved : (c : Resolved → ℕ) (t : Forest Resolved) (spots : List Spot) (all : List Held) (r : ℕ) (subscripts : List ℕ) (x : Held) → AreNumbered 0 t → spots ≡ spots_of c t 0 0 → all ≡ held_in [] t
    → Refers r subscripts t → place_of c r t 0 0 subscripts ≡ Some (moved spots (get_or all r x).tables subscripts (first_element spots r))
stands_moved c t spots all r subscripts x num sp hs refers =
    let s = stood c spots all t 0 0 0 0 [] subscripts r num
    (are_spots c t 0 0 0 [] [] spots refl num (sp ∙ sym (append-nil (spots_of c t 0 0))))
    (are_held t 0 [] [] [] all refl num (hs ∙ sym (append-nil (held_in [] t)))) refers in
    let offset_is : (spot_at spots r).offset + 0 ≡ (spot_at spots r).offset = omega arith in
    s.stands
    ∙ ap (λ (ts : List ℕ). Some (moved spots ts subscripts (further spots r 0))) (sym (s.held x))
    ∙ ap (λ (m : ℕ). Some (moved spots (get_or all r x).tables subscripts (record { offset = m; length = (spot_at spots r).length; within = true }))) offset_is
