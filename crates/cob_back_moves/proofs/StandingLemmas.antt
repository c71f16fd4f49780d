-- Records that stand in one way, entry by entry.
use Rattle.std.proofs.Common.{◌≡◌, ℕ, ◌<◌, ◌≤◌, ◌+◌, Bool, true, false, List, [], ◌∷◌, ◌++◌, length, get_or, Option, Some, None, refl, sym, ap, subst}
use Rattle.std.specs.Bool.{Decides}
use Rattle.std.specs.Prelude.{is_some}
use Rattle.cob_copybook_tree.specs.declared.node.Node.{Node}
use Rattle.cob_copybook_tree.specs.declared.node.Node.TheViews.{out-Node}
use Rattle.cob_copybook_tree.specs.Forests.{Forest, NoEntries, AnEntry}
use Rattle.cob_copybook_tree.specs.Nodes.{Resolved, node, resolved_entry, tree_of}
use Rattle.cob_layout_places.specs.Counts.{table_of, tables_of}
use Rattle.cob_layout_places.specs.declared.varying.Table.{Table}
use Rattle.cob_layout_places.proofs.ForestLemmas.{below, left, left_end, left_is, node_out}
use Rattle.cob_back_moves.specs.Apart.{StandsOneWay}
use Rattle.cob_back_moves.proofs.LeftLemmas.{Both}

-- the entry by itself redefines none, and is no table that varies
abbrev pub StandsByItself : Resolved → Type 0
StandsByItself e = (e.redefines ≡ None) × (table_of e.occurs e.number ≡ [])

first_none : (xs ys : List Table) → xs ++ ys ≡ [] → xs ≡ []
first_none [] ys h = refl
first_none (x ∷ xs) ys h = cc

second_none : (xs ys : List Table) → xs ++ ys ≡ [] → ys ≡ []
second_none [] ys h = h
second_none (x ∷ xs) ys h = cc

both_none : (xs ys : List Table) → xs ≡ [] → ys ≡ [] → xs ++ ys ≡ []
both_none [] ys h k = k
both_none (x ∷ xs) ys h k = cc

pub stands : (e : Resolved) (children more : Forest Resolved) → Both (StandsByItself e × StandsOneWay children × StandsOneWay more) (StandsOneWay (AnEntry e children more))
stands e children more = (
  λ h. record {
    own = (h.0.0, h.1.own, h.2.own);
    steady = both_none (table_of e.occurs e.number) (tables_of children ++ tables_of more) h.0.1 (both_none (tables_of children) (tables_of more) h.1.steady h.2.steady);
  },
  λ h.
      let behind = second_none (table_of e.occurs e.number) (tables_of children ++ tables_of more) h.steady in (
        (h.own.0, first_none (table_of e.occurs e.number) (tables_of children ++ tables_of more) h.steady),
        record { own = h.own.1; steady = first_none (tables_of children) (tables_of more) behind },
        record { own = h.own.2; steady = second_none (tables_of children) (tables_of more) behind },
      ),
)

pub none_stand : StandsOneWay NoEntries
none_stand = record { own = tt; steady = refl }

-- ---- a node

opened : (n : Node) → tree_of n ≡ AnEntry (resolved_entry (out-Node n)) (below n) NoEntries
opened n = ap (λ t. AnEntry t.top t.beneath NoEntries) (node_out n)

no_name : (o : Option (List ℕ)) → is_some o ≡ false → o ≡ None
no_name None h = refl
no_name (Some x) h = cc

some_name : (o : Option (List ℕ)) → is_some o ≡ true → o ≡ None → ⊥
some_name None h e = cc
some_name (Some x) h e = cc

pub redefines_another : (n : Node) → is_some (out-Node n).redefines ≡ true → StandsOneWay (tree_of n) → ⊥
redefines_another n some h =
    let all = (stands (resolved_entry (out-Node n)) (below n) NoEntries).1 (subst StandsOneWay (opened n) h) in
    some_name (out-Node n).redefines some all.0.0

pub varies : (n : Node) (t : Bool) → t ≡ false → Decides t (table_of (out-Node n).occurs (out-Node n).number ≡ []) → StandsOneWay (tree_of n) → ⊥
varies n t fails (met, only) h =
    let all = (stands (resolved_entry (out-Node n)) (below n) NoEntries).1 (subst StandsOneWay (opened n) h) in
    let is : t ≡ true = only all.0.1 in cc

pub begins : (n : Node) (t : Bool) → is_some (out-Node n).redefines ≡ false → t ≡ true → Decides t (table_of (out-Node n).occurs (out-Node n).number ≡ [])
    → Both (StandsOneWay (below n)) (StandsOneWay (tree_of n))
begins n t none is (met, only) = (
  λ h. subst StandsOneWay (sym (opened n)) ((stands (resolved_entry (out-Node n)) (below n) NoEntries).0 ((no_name (out-Node n).redefines none, met is), h, none_stand)),
  λ h. let all = (stands (resolved_entry (out-Node n)) (below n) NoEntries).1 (subst StandsOneWay (opened n) h) in all.1,
)

-- ---- nodes that are left

-- one node stands in one way where its entry and those beneath it do
of_node : (n : Node) → Both (StandsByItself (node n).top × StandsOneWay (node n).beneath) (StandsOneWay (tree_of n))
of_node n = (
  λ h. (stands (node n).top (node n).beneath NoEntries).0 (h.0, h.1, none_stand),
  λ h. let all = (stands (node n).top (node n).beneath NoEntries).1 h in (all.0, all.1),
)

pub next_stands : (ns : List Node) (k : ℕ) (n : Node) (t : Bool) (Q : Type 0) → k < length ns → n ≡ get_or ns k n → t ≡ true → Decides t (StandsOneWay (tree_of n))
    → Both (StandsOneWay (left ns k)) Q → Both (StandsOneWay (left ns (k + 1))) Q
next_stands ns k n t Q lt is met (has, only) (goes, back) = (
  λ h.
      let one = (of_node n).1 (has met) in
      goes (subst StandsOneWay (sym (left_is ns k n lt is)) ((stands (node n).top (node n).beneath (left ns (k + 1))).0 (one.0, one.1, h))),
  λ q. let all = (stands (node n).top (node n).beneath (left ns (k + 1))).1 (subst StandsOneWay (left_is ns k n lt is) (back q)) in all.2,
)

pub next_does_not : (ns : List Node) (k : ℕ) (n : Node) (t : Bool) (Q : Type 0) → k < length ns → n ≡ get_or ns k n → t ≡ false → Decides t (StandsOneWay (tree_of n))
    → Both (StandsOneWay (left ns k)) Q → Q → ⊥
next_does_not ns k n t Q lt is fails (has, only) (goes, back) q =
    let all = (stands (node n).top (node n).beneath (left ns (k + 1))).1 (subst StandsOneWay (left_is ns k n lt is) (back q)) in
    let met : t ≡ true = only ((of_node n).0 (all.0, all.1)) in cc

pub none_left : (ns : List Node) (k : ℕ) (Q : Type 0) → length ns ≤ k → Both (StandsOneWay (left ns k)) Q → Q
none_left ns k Q past (goes, back) = goes (subst StandsOneWay (sym (left_end ns k past)) none_stand)
