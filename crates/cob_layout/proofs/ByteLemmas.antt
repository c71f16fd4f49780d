-- A record has a byte, since its first item has one and stands in no table that varies.
use Rattle.std.proofs.Common.{◌≡◌, ℕ, ◌+◌, ◌*◌, ◌<◌, ◌≤◌, ◌==◌, Bool, true, false, List, [], ◌∷◌, ◌++◌, Option, Some, None, refl, sym, ap, subst, ◌∙◌, arith, inl, inr}
use Rattle.std.proofs.lemmas.Bool.Decides.{nat_tests}
use Rattle.std.proofs.lemmas.Bool.{cases_lt}
use Rattle.cob_copybook_tree.specs.declared.node.Item.{Item}
use Rattle.cob_copybook_tree.specs.declared.node.Node.{Node}
use Rattle.cob_copybook_tree.specs.declared.node.Node.TheViews.{out-Node}
use Rattle.cob_copybook_tree.specs.declared.node.Kind.{Kind}
use Rattle.cob_copybook_tree.specs.declared.node.Kind.TheVariants.{Group, Item as ItemKind}
use Rattle.cob_copybook_tree.specs.declared.node.ResolvedOccurs.{ResolvedOccurs}
use Rattle.cob_copybook_tree.specs.declared.node.ResolvedOccurs.TheVariants.{Once, Fixed, Varying}
use Rattle.cob_copybook_tree.specs.Forests.{Forest, NoEntries, AnEntry, Tree}
use Rattle.cob_copybook_tree.specs.Nodes.{Resolved, forest, is_varying, node, resolved_entry, tree_of}
use Rattle.cob_copybook_tree.specs.Lengths.{greatest_number, length_by_kind, own_length, sum_of, whole_length}
use Rattle.cob_copybook_rules.specs.Areas.{AreAreas, MayFollow}
use Rattle.cob_layout_places.specs.declared.varying.Table.{Table}
use Rattle.cob_layout_places.specs.Lengths.{times, MayOccur}
use Rattle.cob_layout_places.specs.Places.{choose, or_else}
use Rattle.cob_layout_places.specs.Cover.{AreNumbered}
use Rattle.cob_layout_places.specs.Counts.{kind_in, table_of, tables_of, IsCountable}
use Rattle.cob_layout.specs.Sound.{HoldSome, IsAhead, HoldsSome, IsSound, RedefinesNothing}
use Rattle.cob_copybook.specs.Bytes.{TakesByte, TakeBytes}
use Rattle.cob_layout.proofs.SteadyLemmas.{steady_times}
use Rattle.cob_layout.proofs.ThoseLemmas.{IsIn, of_all}

-- ---- each item of a copy does

pub have_push : (ns : List Node) (n : Node) → TakeBytes (forest ns) → TakeBytes (tree_of n) → TakeBytes (forest (ns ++ n ∷ []))
have_push [] n h k = k
have_push (m ∷ ns) n h k = (h.0, h.1, have_push ns n h.2 k)

pub copy_has : (m n : Node) (copies : List Node) → node m ≡ record { top = resolved_entry (out-Node n); beneath = forest copies } → TakesByte (out-Node n).kind → TakeBytes (forest copies) → TakeBytes (tree_of m)
copy_has m n copies is byte have = subst (λ (t : Tree Resolved). TakeBytes (AnEntry t.top t.beneath NoEntries)) (sym is) (byte, have, tt)

-- ---- and so does the record

positive : (a b : ℕ) → 0 < a → 0 < b → 0 < a * b
positive a b h k = grind arith

room_none : (o : Option (List ℕ)) (n : ℕ) → o ≡ None → 0 < n → 0 < own_length o n
room_none None n e h = h
room_none (Some name) n e h = absurd (cc)

none_before : (o : Option (List ℕ)) (t : Tree Resolved) → MayFollow o [] t → o ≡ None
none_before None t h = refl
none_before (Some name) t h = absurd h.0

is_same : (a b : ℕ) → a ≡ b → (a == b) ≡ true
is_same a b e = grind (arith, nat_tests)

is_less : (a b : ℕ) → a < b → (a == b) ≡ false
is_less a b h = grind (arith, nat_tests)

-- what an entry describes stands under its number
own_kind : (e : Resolved) (children more : Forest Resolved) → kind_in e.number (AnEntry e children more) ≡ Some e.kind
own_kind e children more = ap (λ (b : Bool). or_else (choose b e.kind (kind_in e.number children)) (kind_in e.number more)) (is_same e.number e.number refl)

-- and so does what those beneath it describe
kid_kind : (e : Resolved) (children more : Forest Resolved) (k : ℕ) (kind : Kind) → e.number < k → kind_in k children ≡ Some kind → kind_in k (AnEntry e children more) ≡ Some kind
kid_kind e children more k kind lt is =
    ap (λ (b : Bool). or_else (choose b e.kind (kind_in k children)) (kind_in k more)) (is_less e.number k lt) ∙ ap (λ (o : Option Kind). or_else o (kind_in k more)) is

no_item : (k : Kind) (i : Item) → k ≡ Group → Some k ≡ Some (ItemKind i) → ⊥
no_item k i g e = cc

-- What is known where entries begin that nothing stands before but the groups that hold them: no item has a number before theirs, what they
-- describe is described in the whole, and their tables that vary have items as counts, which stand before them.
record Begun (all : Forest Resolved) (n : ℕ) (f : Forest Resolved) : Type 0 where
  groups : (k : ℕ) (i : Item) → k < n → kind_in k all ≡ Some (ItemKind i) → ⊥
  shown : (k : ℕ) (kind : Kind) → n ≤ k → kind_in k f ≡ Some kind → kind_in k all ≡ Some kind
  counted : (x : Table) → IsIn x (tables_of f) → (i : Item) × (kind_in x.count all ≡ Some (ItemKind i)) × (x.count < x.number)

pub in_front : (x : Table) (xs ys : List Table) → IsIn x xs → IsIn x (xs ++ ys)
in_front x [] ys i = absurd i
in_front x (z ∷ zs) ys (inl e) = inl e
in_front x (z ∷ zs) ys (inr i) = inr (in_front x zs ys i)

pub in_back : (x : Table) (xs ys : List Table) → IsIn x ys → IsIn x (xs ++ ys)
in_back x [] ys i = i
in_back x (z ∷ zs) ys i = inr (in_back x zs ys i)

-- the first entry doesn't vary
not_varying : (all : Forest Resolved) (n : ℕ) (o : ResolvedOccurs) (number : ℕ) (ys : List Table) → number ≡ n → ((k : ℕ) (i : Item) → k < n → kind_in k all ≡ Some (ItemKind i) → ⊥)
    → ((x : Table) → IsIn x (table_of o number ++ ys) → (i : Item) × (kind_in x.count all ≡ Some (ItemKind i)) × (x.count < x.number)) → is_varying o ≡ false
not_varying all n Once number ys e groups counted = refl
not_varying all n (Fixed m) number ys e groups counted = refl
not_varying all n (Varying least m count) number ys e groups counted =
    let k = counted (record { number = number; least = least; most = m; count = count }) (inl refl) in
    absurd (groups count k.0 (omega (arith, e, k.2)) k.1)

abbrev IsSome : Forest Resolved → Type 0
IsSome NoEntries = ⊥
IsSome (AnEntry e children more) = Unit {0}

group_some : (k : Kind) (children : Forest Resolved) → k ≡ Group → HoldsSome k children → IsSome children
group_some Group NoEntries g h = h
group_some Group (AnEntry e children more) g h = tt
group_some (ItemKind i) children g h = absurd (cc)

item_or_group : (k : Kind) (sum : ℕ) → TakesByte k → (k ≡ Group → 0 < sum) → 0 < length_by_kind k sum
item_or_group Group sum h go = go refl
item_or_group (ItemKind i) sum h go = h

-- so it is beneath a group
begun_beneath : (all : Forest Resolved) (n : ℕ) (e : Resolved) (children more : Forest Resolved) → e.number ≡ n → e.kind ≡ Group → Begun all n (AnEntry e children more) → Begun all (n + 1) children
begun_beneath all n e children more num group begun = record {
  groups = λ k i lt is. elim (cases_lt k n) [
    | inl before ↦ begun.groups k i before is
    | inr ge ↦ (let at : e.number ≡ k = omega (arith, num, ge, lt) in
        let own : kind_in k all ≡ Some e.kind = begun.shown k e.kind ge (subst (λ (m : ℕ). kind_in m (AnEntry e children more) ≡ Some e.kind) at (own_kind e children more)) in
        no_item e.kind i group (sym own ∙ is))
  ];
  shown = λ k kind le is. begun.shown k kind (omega (arith, le)) (kid_kind e children more k kind (omega (arith, le, num)) is);
  counted = λ x i. begun.counted x (in_back x (table_of e.occurs e.number) (tables_of children ++ tables_of more) (in_front x (tables_of children) (tables_of more) i));
}

begun_some : (all : Forest Resolved) (c : Resolved → ℕ) (n : ℕ) (f : Forest Resolved) → ((d : Resolved) → is_varying d.occurs ≡ false → c d ≡ greatest_number d) → IsSome f
    → AreNumbered n f → MayOccur f → HoldSome f → TakeBytes f → AreAreas [] f → Begun all n f → 0 < sum_of c f
begun_some all c n NoEntries steady some num occur filled bytes areas begun = absurd some
begun_some all c n (AnEntry e children more) steady some num occur filled bytes areas begun =
    let fixed = not_varying all n e.occurs e.number (tables_of children ++ tables_of more) num.0 begun.groups begun.counted in
    let often : 0 < c e = omega (arith, steady e fixed, occur.0) in
    let here : 0 < length_by_kind e.kind (sum_of c children) = item_or_group e.kind (sum_of c children) bytes.0 (λ group.
    begun_some all c (n + 1) children steady (group_some e.kind children group filled.0) num.1 occur.1 filled.1 bytes.1 areas.1 (begun_beneath all n e children more num.0 group begun)) in
    let t : Tree Resolved = record { top = e; beneath = children } in
    let first = room_none e.redefines (whole_length c e children) (none_before e.redefines t areas.0) (positive (c e) (length_by_kind e.kind (sum_of c children)) often here) in
    omega (arith, first)

some_of : (f : Forest Resolved) → RedefinesNothing f → IsSome f
some_of NoEntries h = h
some_of (AnEntry e children more) h = tt

record_some : (c : Resolved → ℕ) (t : Forest Resolved) → ((d : Resolved) → is_varying d.occurs ≡ false → c d ≡ greatest_number d) → IsSound t → TakeBytes t → 0 < sum_of c t
record_some c t steady s bytes =
    begun_some t c 0 t steady (some_of t s.first) s.numbered s.fit.possible s.filled bytes s.areas (record {
      groups = λ k i lt is. absurd (omega (arith, lt));
      shown = λ k kind le is. is;
      counted = λ x i.
          let countable = of_all (IsCountable t) (tables_of t) x s.countable i in
          let ahead = of_all (IsAhead t) (tables_of t) x s.ahead i in
          (countable.item, countable.is, ahead.before);
    })

-- a record has a byte under whatever counts, and so under the greatest ones
pub length_some : (counts : List ℕ) (t u : Forest Resolved) → IsSound t → TakeBytes t → t ≡ u → 0 < sum_of (times counts) u
length_some counts t u s bytes same = subst (λ (v : Forest Resolved). 0 < sum_of (times counts) v) same (record_some (times counts) t (λ d v. steady_times _ d.occurs v) s bytes)

pub greatest_some : (t u : Forest Resolved) → IsSound t → TakeBytes t → t ≡ u → 0 < sum_of greatest_number u
greatest_some t u s bytes same = subst (λ (v : Forest Resolved). 0 < sum_of greatest_number v) same (record_some greatest_number t (λ d v. refl) s bytes)
