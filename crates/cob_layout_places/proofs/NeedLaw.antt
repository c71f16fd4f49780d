-- The counts that a place needs are those below its reach.
use Rattle.std.proofs.Common.{◌≡◌, ℕ, ◌+◌, ◌<◌, ◌≤◌, ◌==◌, ◌&&◌, nat_le, nat_lt, refl, sym, ◌∙◌, arith, Bool, true, false, inl, inr, ◌⊎◌}
use Rattle.std.specs.Prelude.{◌||◌, not}
use Rattle.std.proofs.lemmas.Bool.Decides.{nat_tests}
use Rattle.std.proofs.lemmas.Bool.{cases_lt}
use Rattle.cob_copybook_tree.specs.Forests.{Forest, NoEntries, AnEntry, entries_in}
use Rattle.cob_copybook_tree.specs.Nodes.{Resolved}
use Rattle.cob_layout_places.specs.declared.varying.Table.{Table}
use Rattle.cob_layout_places.specs.Places.{is_table}
use Rattle.cob_layout_places.specs.Cover.{AreNumbered}
use Rattle.cob_layout_places.specs.Needs.{Has, Holds, ShareTable, Needs, IsSpared, number_behind, is_read, NeedsAreRead}

-- numbers of entries lie in one range
pub low : (n a : ℕ) (f : Forest Resolved) → AreNumbered n f → Has a f → n ≤ a
low n a NoEntries h x = absurd x
low n a (AnEntry e children more) h (inl x) = omega (arith, h.0, x)
low n a (AnEntry e children more) h (inr (inl x)) = omega (arith, low (n + 1) a children h.1 x)
low n a (AnEntry e children more) h (inr (inr x)) = omega (arith, low (n + 1 + entries_in children) a more h.2 x)

pub high : (n a : ℕ) (f : Forest Resolved) → AreNumbered n f → Has a f → a < n + entries_in f
high n a NoEntries h x = absurd x
high n a (AnEntry e children more) h (inl x) = omega (arith, h.0, x)
high n a (AnEntry e children more) h (inr (inl x)) = omega (arith, high (n + 1) a children h.1 x)
high n a (AnEntry e children more) h (inr (inr x)) = omega (arith, high (n + 1 + entries_in children) a more h.2 x)

-- the entry beneath another, or beneath a table of that one, with tables or without
abbrev Together : Bool → ℕ → ℕ → Forest Resolved → Type 0
Together tables a b f = Holds a b f ⊎ ((tables ≡ true) × ShareTable a b f)

holds_first : (a b : ℕ) (f : Forest Resolved) → Holds a b f → Has a f
holds_first a b NoEntries h = h
holds_first a b (AnEntry e children more) (inl h) = inl h.0
holds_first a b (AnEntry e children more) (inr (inl h)) = inr (inl (holds_first a b children h))
holds_first a b (AnEntry e children more) (inr (inr h)) = inr (inr (holds_first a b more h))

holds_second : (a b : ℕ) (f : Forest Resolved) → Holds a b f → Has b f
holds_second a b NoEntries h = h
holds_second a b (AnEntry e children more) (inl h) = inr (inl h.1)
holds_second a b (AnEntry e children more) (inr (inl h)) = inr (inl (holds_second a b children h))
holds_second a b (AnEntry e children more) (inr (inr h)) = inr (inr (holds_second a b more h))

share_first : (a b : ℕ) (f : Forest Resolved) → ShareTable a b f → Has a f
share_first a b NoEntries h = h
share_first a b (AnEntry e children more) (inl h) = inr (inl h.1)
share_first a b (AnEntry e children more) (inr (inl h)) = inr (inl (share_first a b children h))
share_first a b (AnEntry e children more) (inr (inr h)) = inr (inr (share_first a b more h))

share_second : (a b : ℕ) (f : Forest Resolved) → ShareTable a b f → Has b f
share_second a b NoEntries h = h
share_second a b (AnEntry e children more) (inl h) = inr (inl h.2)
share_second a b (AnEntry e children more) (inr (inl h)) = inr (inl (share_second a b children h))
share_second a b (AnEntry e children more) (inr (inr h)) = inr (inr (share_second a b more h))

-- what stands beneath an entry comes behind it
pub holds_behind : (n a b : ℕ) (f : Forest Resolved) → AreNumbered n f → Holds a b f → a < b
holds_behind n a b NoEntries h x = absurd x
holds_behind n a b (AnEntry e children more) h (inl x) = omega (arith, h.0, x.0, low (n + 1) b children h.1 x.1)
holds_behind n a b (AnEntry e children more) h (inr (inl x)) = holds_behind (n + 1) a b children h.1 x
holds_behind n a b (AnEntry e children more) h (inr (inr x)) = holds_behind (n + 1 + entries_in children) a b more h.2 x

or_left : (x y : Bool) → x ≡ true → (x || y) ≡ true
or_left x y e = rw e refl

or_right : (x y : Bool) → y ≡ true → (x || y) ≡ true
or_right true y e = refl
or_right false y e = e

or_first : (x y : Bool) → (x || y) ≡ true → y ≡ false → x ≡ true
or_first true y e f = refl
or_first false y e f = absurd (let g : true ≡ false = sym e ∙ f in cc)

and_both : (x y : Bool) → x ≡ true → y ≡ true → (x && y) ≡ true
and_both x y e f = rw (e, f) refl

and_first : (x y : Bool) → (x && y) ≡ true → x ≡ true
and_first true y e = refl
and_first false y e = e

and_second : (x y : Bool) → (x && y) ≡ true → y ≡ true
and_second true y e = e
and_second false y e = absurd (cc)

is_same : (a b : ℕ) → a ≡ b → (a == b) ≡ true
is_same a b e = grind (arith, nat_tests)

is_less : (a b : ℕ) → a < b → (a == b) ≡ false
is_less a b h = grind (arith, nat_tests)

le_yes : (a b : ℕ) → a ≤ b → nat_le a b ≡ true
le_yes a b h = grind (arith, nat_tests)

pub le_no : (a b : ℕ) → b < a → nat_le a b ≡ false
le_no a b h = grind (arith, nat_tests)

-- the reach ends at this entry
abbrev pub Stops : Bool → ℕ → Resolved → Bool
Stops tables a e = (tables && is_table e.occurs) || (e.number == a)

pub reach_behind : (tables : Bool) (a : ℕ) (e : Resolved) (children more : Forest Resolved) → e.number + 1 + entries_in children ≤ a → number_behind tables a (AnEntry e children more) ≡ number_behind tables a more
reach_behind tables a e children more h = rw (le_yes _ _ h) refl

pub reach_whole : (tables : Bool) (a : ℕ) (e : Resolved) (children more : Forest Resolved) → a < e.number + 1 + entries_in children → Stops tables a e ≡ true → number_behind tables a (AnEntry e children more) ≡ e.number + 1 + entries_in children
reach_whole tables a e children more h s = rw (le_no (e.number + 1 + entries_in children) a h, s) refl

pub reach_inner : (tables : Bool) (a : ℕ) (e : Resolved) (children more : Forest Resolved) → a < e.number + 1 + entries_in children → Stops tables a e ≡ false → number_behind tables a (AnEntry e children more) ≡ number_behind tables a children
reach_inner tables a e children more h s = rw (le_no (e.number + 1 + entries_in children) a h, s) refl

two_ways : (b : Bool) → (b ≡ true) ⊎ (b ≡ false)
two_ways true = inl refl
two_ways false = inr refl

in_kids : (tables : Bool) (n a b : ℕ) (e : Resolved) (children more : Forest Resolved) → AreNumbered n (AnEntry e children more) → Has a children → Has b children → b < number_behind tables a children → b < number_behind tables a (AnEntry e children more)
in_kids tables n a b e children more h x y lt =
    let inside : a < e.number + 1 + entries_in children = omega (arith, h.0, high (n + 1) a children h.1 x) in
    elim (two_ways (Stops tables a e)) [
      | inl s ↦ omega (arith, reach_whole tables a e children more inside s, h.0, high (n + 1) b children h.1 y)
      | inr s ↦ omega (arith, reach_inner tables a e children more inside s, lt)
    ]

in_more : (tables : Bool) (n a b : ℕ) (e : Resolved) (children more : Forest Resolved) → AreNumbered n (AnEntry e children more) → Has a more → b < number_behind tables a more → b < number_behind tables a (AnEntry e children more)
in_more tables n a b e children more h x lt = omega (arith, reach_behind tables a e children more (omega (arith, h.0, low (n + 1 + entries_in children) a more h.2 x)), lt)

in_whole : (tables : Bool) (n a b : ℕ) (e : Resolved) (children more : Forest Resolved) → AreNumbered n (AnEntry e children more) → a < e.number + 1 + entries_in children → Stops tables a e ≡ true → b < e.number + 1 + entries_in children
    → b < number_behind tables a (AnEntry e children more)
in_whole tables n a b e children more h l s lt = omega (arith, reach_whole tables a e children more l s, lt)

-- an entry is below its own reach
above : (tables : Bool) (n a : ℕ) (f : Forest Resolved) → AreNumbered n f → Has a f → a < number_behind tables a f
above tables n a NoEntries h x = absurd x
above tables n a (AnEntry e children more) h (inl x) = in_whole tables n a a e children more h (omega (arith, x)) (or_right (tables && is_table e.occurs) _ (is_same e.number a x)) (omega (arith, x))
above tables n a (AnEntry e children more) h (inr (inl x)) = in_kids tables n a a e children more h x x (above tables (n + 1) a children h.1 x)
above tables n a (AnEntry e children more) h (inr (inr x)) = in_more tables n a a e children more h x (above tables (n + 1 + entries_in children) a more h.2 x)

-- those that stand together are below the reach
upper_holds : (tables : Bool) (n a b : ℕ) (f : Forest Resolved) → AreNumbered n f → Holds a b f → b < number_behind tables a f
upper_holds tables n a b NoEntries h t = absurd t
upper_holds tables n a b (AnEntry e children more) h (inl t) =
    in_whole tables n a b e children more h (omega (arith, t.0)) (or_right (tables && is_table e.occurs) _ (is_same e.number a t.0)) (omega (arith, h.0, high (n + 1) b children h.1 t.1))
upper_holds tables n a b (AnEntry e children more) h (inr (inl t)) = in_kids tables n a b e children more h (holds_first a b children t) (holds_second a b children t) (upper_holds tables (n + 1) a b children h.1 t)
upper_holds tables n a b (AnEntry e children more) h (inr (inr t)) = in_more tables n a b e children more h (holds_first a b more t) (upper_holds tables (n + 1 + entries_in children) a b more h.2 t)

upper_share : (n a b : ℕ) (f : Forest Resolved) → AreNumbered n f → ShareTable a b f → b < number_behind true a f
upper_share n a b NoEntries h t = absurd t
upper_share n a b (AnEntry e children more) h (inl t) =
    in_whole true n a b e children more h (omega (arith, h.0, high (n + 1) a children h.1 t.1)) (or_left (true && is_table e.occurs) _ t.0) (omega (arith, h.0, high (n + 1) b children h.1 t.2))
upper_share n a b (AnEntry e children more) h (inr (inl t)) = in_kids true n a b e children more h (share_first a b children t) (share_second a b children t) (upper_share (n + 1) a b children h.1 t)
upper_share n a b (AnEntry e children more) h (inr (inr t)) = in_more true n a b e children more h (share_first a b more t) (upper_share (n + 1 + entries_in children) a b more h.2 t)

-- the reach ends with the entries
pub reach_le : (tables : Bool) (n a : ℕ) (f : Forest Resolved) → AreNumbered n f → number_behind tables a f ≤ n + entries_in f
reach_le tables n a NoEntries h = omega arith
reach_le tables n a (AnEntry e children more) h = elim (cases_lt a (e.number + 1 + entries_in children)) [
  | inr ge ↦ omega (arith, reach_behind tables a e children more ge, reach_le tables (n + 1 + entries_in children) a more h.2)
  | inl lt ↦ elim (two_ways (Stops tables a e)) [
    | inl s ↦ omega (arith, reach_whole tables a e children more lt s, h.0)
    | inr s ↦ omega (arith, reach_inner tables a e children more lt s, reach_le tables (n + 1) a children h.1)
  ]
]

together_beneath : (tables : Bool) (a b : ℕ) (e : Resolved) (children more : Forest Resolved) → Together tables a b children → Together tables a b (AnEntry e children more)
together_beneath tables a b e children more (inl h) = inl (inr (inl h))
together_beneath tables a b e children more (inr h) = inr (h.0, inr (inl h.1))

together_beside : (tables : Bool) (a b : ℕ) (e : Resolved) (children more : Forest Resolved) → Together tables a b more → Together tables a b (AnEntry e children more)
together_beside tables a b e children more (inl h) = inl (inr (inr h))
together_beside tables a b e children more (inr h) = inr (h.0, inr (inr h.1))

-- an entry behind a first one that isn't past what stands beneath it stands beneath it
later_kid : (n b : ℕ) (e : Resolved) (children more : Forest Resolved) → AreNumbered n (AnEntry e children more) → Has b (AnEntry e children more) → n < b → b < e.number + 1 + entries_in children → Has b children
later_kid n b e children more h (inl x) l u = absurd (omega (arith, h.0, x))
later_kid n b e children more h (inr (inl x)) l u = x
later_kid n b e children more h (inr (inr x)) l u = absurd (omega (arith, h.0, low (n + 1 + entries_in children) b more h.2 x))

later_one : (n b : ℕ) (e : Resolved) (children more : Forest Resolved) → AreNumbered n (AnEntry e children more) → Has b (AnEntry e children more) → e.number + 1 + entries_in children ≤ b → Has b more
later_one n b e children more h (inl x) l = absurd (omega (arith, x))
later_one n b e children more h (inr (inl x)) l = absurd (omega (arith, h.0, high (n + 1) b children h.1 x))
later_one n b e children more h (inr (inr x)) l = x

-- what is behind an entry and below its reach stands together with it
lower : (tables : Bool) (n a b : ℕ) (f : Forest Resolved) → AreNumbered n f → Has a f → Has b f → a < b → b < number_behind tables a f → Together tables a b f
lower tables n a b NoEntries h x y l u = absurd x
lower tables n a b (AnEntry e children more) h (inl x) y l u =
    let w = reach_whole tables a e children more (omega (arith, x)) (or_right (tables && is_table e.occurs) _ (is_same e.number a x)) in
    inl (inl (x, later_kid n b e children more h y (omega (arith, h.0, x)) (omega (arith, w, u))))
lower tables n a b (AnEntry e children more) h (inr (inl x)) y l u =
    let inside : a < e.number + 1 + entries_in children = omega (arith, h.0, high (n + 1) a children h.1 x) in
    let past : n < a = omega (arith, low (n + 1) a children h.1 x) in
    elim (two_ways (Stops tables a e)) [
      | inl s ↦ (let t = or_first (tables && is_table e.occurs) (e.number == a) s (is_less e.number a (omega (arith, h.0))) in
          let kid = later_kid n b e children more h y (omega arith) (omega (arith, reach_whole tables a e children more inside s, u)) in
          inr (and_first tables (is_table e.occurs) t, inl (and_second tables (is_table e.occurs) t, x, kid)))
      | inr s ↦ (let i = reach_inner tables a e children more inside s in
          let m = reach_le tables (n + 1) a children h.1 in
          let kid = later_kid n b e children more h y (omega arith) (omega (arith, i, m, u, h.0)) in
          together_beneath tables a b e children more (lower tables (n + 1) a b children h.1 x kid l (omega (arith, i, u))))
    ]
lower tables n a b (AnEntry e children more) h (inr (inr x)) y l u =
    let past : e.number + 1 + entries_in children ≤ a = omega (arith, h.0, low (n + 1 + entries_in children) a more h.2 x) in
    together_beside tables a b e children more
    (lower tables (n + 1 + entries_in children) a b more h.2 x (later_one n b e children more h y (omega arith)) l (omega (arith, reach_behind tables a e children more past, u)))

-- each number in the range is one of the entries
pub has_number : (n a : ℕ) (f : Forest Resolved) → AreNumbered n f → n ≤ a → a < n + entries_in f → Has a f
has_number n a NoEntries h l u = absurd (omega arith)
has_number n a (AnEntry e children more) h l u = elim (cases_lt n a) [
  | inr ge ↦ inl (omega (arith, h.0))
  | inl lt ↦ elim (cases_lt a (n + 1 + entries_in children)) [
    | inl inside ↦ inr (inl (has_number (n + 1) a children h.1 (omega arith) (omega arith)))
    | inr past ↦ inr (inr (has_number (n + 1 + entries_in children) a more h.2 past (omega arith)))
  ]
]

needs_of : (r x : ℕ) (f : Forest Resolved) → Together true r x f → Needs r x f
needs_of r x f (inl h) = inr (inr (inr (inl h)))
needs_of r x f (inr h) = inr (inr (inr (inr h.1)))

pub below_needed : (r x : ℕ) (f : Forest Resolved) → AreNumbered 0 f → Has r f → Has x f → x < number_behind true r f → Needs r x f
below_needed r x f h a b u = elim (cases_lt x r) [
  | inl lt ↦ inl lt
  | inr ge ↦ elim (cases_lt r x) [
    | inl behind ↦ needs_of r x f (lower true 0 r x f h a b behind u)
    | inr le ↦ inr (inl (omega arith))
  ]
]

needed_below : (r x : ℕ) (f : Forest Resolved) → AreNumbered 0 f → Has r f → Needs r x f → x < number_behind true r f
needed_below r x f h a (inl n) = omega (arith, above true 0 r f h a, n)
needed_below r x f h a (inr (inl n)) = omega (arith, above true 0 r f h a, n)
needed_below r x f h a (inr (inr (inl n))) = omega (arith, above true 0 r f h a, holds_behind 0 x r f h n)
needed_below r x f h a (inr (inr (inr (inl n)))) = upper_holds true 0 r x f h n
needed_below r x f h a (inr (inr (inr (inr n)))) = upper_share 0 r x f h n

held : (a b : ℕ) (f : Forest Resolved) → Together false a b f → Holds a b f
held a b f (inl h) = h
held a b f (inr h) = absurd (let e : false ≡ true = h.0 in cc)

last_holds : (r y : ℕ) (f : Forest Resolved) → AreNumbered 0 f → Has r f → number_behind false r f ≡ entries_in f → Has y f → r < y → Holds r y f
last_holds r y f h a e b l = held r y f (lower false 0 r y f h a b l (omega (arith, e, high 0 y f h b)))

holds_last : (r : ℕ) (f : Forest Resolved) → AreNumbered 0 f → Has r f → ((y : ℕ) → Has y f → r < y → Holds r y f) → number_behind false r f ≡ entries_in f
holds_last r f h a all = elim (cases_lt (number_behind false r f) (entries_in f)) [
  | inl lt ↦ absurd (let y = number_behind false r f in
      let there = has_number 0 y f h (omega arith) (omega arith) in
      let held = all y there (above false 0 r f h a) in
      let under = upper_holds false 0 r y f h held in omega (arith, under))
  | inr ge ↦ (let m = reach_le false 0 r f h in omega (arith, m))
]

lt_yes : (a b : ℕ) → a < b → nat_lt a b ≡ true
lt_yes a b h = grind (arith, nat_tests)

lt_must : (a b : ℕ) → nat_lt a b ≡ true → a < b
lt_must a b h = grind (arith, nat_tests)

same_must : (a b : ℕ) → (a == b) ≡ true → a ≡ b
same_must a b h = grind (arith, nat_tests)

not_true : (b : Bool) → b ≡ false → not b ≡ true
not_true b e = rw e refl

not_must : (b : Bool) → not b ≡ true → b ≡ false
not_must false e = refl
not_must true e = absurd (cc)

-- the test of what is spared
abbrev pub Passes : Forest Resolved → ℕ → Bool → Table → Bool
Passes t r receiving x = (receiving && (number_behind false r t == entries_in t)) && (nat_lt r x.number && nat_lt r x.count)

pub spared_passes : (t : Forest Resolved) (r : ℕ) (receiving : Bool) (x : Table) → AreNumbered 0 t → Has r t → receiving ≡ true → IsSpared r x t → Passes t r receiving x ≡ true
spared_passes t r receiving x h a v s =
    let e = holds_last r t h a s.last in
    and_both _ _ (and_both _ _ v (is_same _ _ (omega (arith, e))))
    (and_both _ _ (lt_yes r x.number (holds_behind 0 r x.number t h s.table)) (lt_yes r x.count (holds_behind 0 r x.count t h s.count)))

pub passes_spared : (t : Forest Resolved) (r : ℕ) (receiving : Bool) (x : Table) → AreNumbered 0 t → Has r t → Has x.number t → Has x.count t
    → Passes t r receiving x ≡ true → (receiving ≡ true) × IsSpared r x t
passes_spared t r receiving x h a b d p =
    let front = and_first _ _ p in
    let back = and_second _ _ p in
    let e : number_behind false r t ≡ entries_in t = omega (arith, same_must _ _ (and_second receiving _ front)) in
    let table = lt_must r x.number (and_first _ _ back) in
    let count = lt_must r x.count (and_second (nat_lt r x.number) _ back) in (
      and_first receiving _ front,
      record {
        last = λ y there l. last_holds r y t h a e there l;
        table = last_holds r x.number t h a e b table;
        count = last_holds r x.count t h a e d count;
      },
    )

read_needed : (t : Forest Resolved) (r : ℕ) (receiving : Bool) (x : Table) → AreNumbered 0 t → Has r t → Has x.number t
    → is_read t r receiving x ≡ true → Needs r x.number t × (receiving ≡ true → IsSpared r x t → ⊥)
read_needed t r receiving x h a b k =
    let below = lt_must x.number (number_behind true r t) (and_first _ _ k) in
    let fails : Passes t r receiving x ≡ false = not_must _ (and_second (nat_lt x.number (number_behind true r t)) _ k) in (
      below_needed r x.number t h a b below,
      λ v s. let e : true ≡ false = sym (spared_passes t r receiving x h a v s) ∙ fails in cc,
    )

needed_read : (t : Forest Resolved) (r : ℕ) (receiving : Bool) (x : Table) → AreNumbered 0 t → Has r t → Has x.number t → Has x.count t
    → Needs r x.number t × (receiving ≡ true → IsSpared r x t → ⊥) → is_read t r receiving x ≡ true
needed_read t r receiving x h a b d n = elim (two_ways (Passes t r receiving x)) [
  | inl p ↦ (let s = passes_spared t r receiving x h a b d p in absurd (n.1 s.0 s.1))
  | inr p ↦ and_both _ _ (lt_yes x.number (number_behind true r t) (needed_below r x.number t h a n.0)) (not_true _ p)
]

pub needs_are_read : NeedsAreRead
needs_are_read t r receiving x h a b d = (read_needed t r receiving x h a b, needed_read t r receiving x h a b d)
