-- Entries that have a name, looked for in a tree.
use Rattle.std.proofs.Common.{◌≡◌, ℕ, ◌<◌, ◌≤◌, ◌+◌, Bool, true, false, List, length, get_or, sym, ap, subst, inl, inr}
use Rattle.std.specs.Bool.{Decides}
use Rattle.std.specs.Prelude.{IsSome}
use Rattle.cob_copybook_tree.specs.declared.node.Node.{Node}
use Rattle.cob_copybook_tree.specs.declared.node.Node.TheViews.{out-Node}
use Rattle.cob_copybook_tree.specs.Forests.{NoEntries, AnEntry}
use Rattle.cob_copybook_tree.specs.Nodes.{Resolved, resolved_entry, tree_of}
use Rattle.cob_layout_places.proofs.ForestLemmas.{below, left, left_end, left_is, node_out}
use Rattle.cob_back_moves.specs.Returns.{BearsName}
use Rattle.cob_back_moves.proofs.LeftLemmas.{Both}

-- the entry by itself has this number and a name
abbrev pub BearsItself : ℕ → Resolved → Type 0
BearsItself r e = (e.number ≡ r) × IsSome e.name

opened : (n : Node) → tree_of n ≡ AnEntry (resolved_entry (out-Node n)) (below n) NoEntries
opened n = ap (λ t. AnEntry t.top t.beneath NoEntries) (node_out n)

pub bears_itself : (r : ℕ) (n : Node) → BearsItself r (resolved_entry (out-Node n)) → BearsName r (tree_of n)
bears_itself r n own = subst (BearsName r) (sym (opened n)) (inl own)

-- where the entry itself doesn't, one beneath it does
abbrev pub Below : ℕ → Node → Type 0
Below r n = Both (BearsName r (below n)) (BearsName r (tree_of n))

pub bears_below : (r : ℕ) (n : Node) (t : Bool) → t ≡ false → Decides t (BearsItself r (resolved_entry (out-Node n))) → Below r n
bears_below r n t fails (has, only) =
    let never : BearsItself r (resolved_entry (out-Node n)) → ⊥ = λ own. let is : t ≡ true = only own in cc in (
      λ h. subst (BearsName r) (sym (opened n)) (inr (inl h)),
      λ h. elim (subst (BearsName r) (opened n) h) [
        | inl own ↦ absurd (never own)
        | inr rest ↦ elim rest [ inl h ↦ h | inr none ↦ absurd none ]
      ],
    )

-- ---- nodes that are left

pub next_bears : (r : ℕ) (ns : List Node) (k : ℕ) (n : Node) (t : Bool) (Q : Type 0) → k < length ns → n ≡ get_or ns k n → t ≡ true → Decides t (BearsName r (tree_of n))
    → Both (BearsName r (left ns k)) Q → Q
next_bears r ns k n t Q lt is met (has, only) (goes, back) =
    elim (has met) [
      | inl own ↦ goes (subst (BearsName r) (sym (left_is ns k n lt is)) (inl own))
      | inr rest ↦ elim rest [
        | inl h ↦ goes (subst (BearsName r) (sym (left_is ns k n lt is)) (inr (inl h)))
        | inr none ↦ absurd none
      ]
    ]

pub next_does_not : (r : ℕ) (ns : List Node) (k : ℕ) (n : Node) (t : Bool) (Q : Type 0) → k < length ns → n ≡ get_or ns k n → t ≡ false → Decides t (BearsName r (tree_of n))
    → Both (BearsName r (left ns k)) Q → Both (BearsName r (left ns (k + 1))) Q
next_does_not r ns k n t Q lt is fails (has, only) (goes, back) =
    let never : BearsName r (tree_of n) → ⊥ = λ h. let is : t ≡ true = only h in cc in (
      λ h. goes (subst (BearsName r) (sym (left_is ns k n lt is)) (inr (inr h))),
      λ q. elim (subst (BearsName r) (left_is ns k n lt is) (back q)) [
        | inl own ↦ absurd (never (inl own))
        | inr rest ↦ elim rest [ inl h ↦ absurd (never (inr (inl h))) | inr h ↦ h ]
      ],
    )

pub none_left : (r : ℕ) (ns : List Node) (k : ℕ) (Q : Type 0) → length ns ≤ k → Both (BearsName r (left ns k)) Q → Q → ⊥
none_left r ns k Q past (goes, back) q = subst (BearsName r) (left_end ns k past) (back q)
