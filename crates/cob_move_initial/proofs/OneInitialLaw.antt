-- The storage before the first move is determined, where what items and groups with a value hold is.
use Rattle.std.proofs.Common.{◌≡◌, ℕ, zero, suc, List, ◌++◌, Option, None, Some, sym, ◌∙◌}
use Rattle.cob_copybook_entry.specs.Described.{PlainValue}
use Rattle.cob_copybook_tree.specs.declared.node.Kind.{Kind}
use Rattle.cob_copybook_tree.specs.declared.node.Kind.TheVariants.{Group, Item as ItemKind}
use Rattle.cob_copybook_tree.specs.Forests.{NoEntries, AnEntry}
use Rattle.cob_copybook_tree.specs.Lengths.{greatest_number, sum_of}
use Rattle.cob_move_initial.specs.Laws.{OneGroup, OneItem, OneInitial}
use Rattle.cob_move_initial.specs.Initial.{AreParts, Unless, HoldsElement, IsInitial}

-- only one list is so
abbrev IsOne : (List ℕ → Type 0) → Type 0
IsOne IsPart = (a b : List ℕ) → IsPart a → IsPart b → a ≡ b

joined : (a b c d x y : List ℕ) → x ≡ a ++ b → y ≡ c ++ d → a ≡ c → b ≡ d → x ≡ y
joined a b c d x y ex ey e f = ex ∙ (λ i. e i ++ f i) ∙ sym ey

one_of_parts : (IsPart : List ℕ → Type 0) (n : ℕ) → IsOne IsPart → IsOne (AreParts IsPart n)
one_of_parts IsPart zero one a b p q = p ∙ sym q
one_of_parts IsPart (suc n) one a b p q =
    joined p.0 p.1 q.0 q.1 a b p.2 q.2 (one p.0 q.0 p.3 q.3) (one_of_parts IsPart n one p.1 q.1 p.4 q.4)

one_unless : (o : Option (List ℕ)) (IsPart : List ℕ → Type 0) → IsOne IsPart → IsOne (Unless o IsPart)
one_unless None IsPart one a b p q = one a b p q
one_unless (Some name) IsPart one a b p q = p ∙ sym q

module _ (groups : OneGroup) (items : OneItem) where
  one_element : (kind : Kind) (value : Option PlainValue) (size : ℕ) (AreBeneath : List ℕ → Type 0) → IsOne AreBeneath → IsOne (HoldsElement kind value size AreBeneath)
  one_element (ItemKind i) value size AreBeneath one a b p q = items i value a b p q
  one_element Group None size AreBeneath one a b p q = one a b p q
  one_element Group (Some c) size AreBeneath one a b p q = groups size c a b p q

  pub one_initial : OneInitial
  one_initial NoEntries a b p q = p ∙ sym q
  one_initial (AnEntry e children more) a b p q =
      let element = one_element e.kind e.value (sum_of greatest_number children) (IsInitial children) (one_initial children) in
      let parts = one_of_parts _ (greatest_number e) element in
      joined p.0 p.1 q.0 q.1 a b p.2 q.2 (one_unless e.redefines _ parts p.0 q.0 p.3 q.3) (one_initial more p.1 q.1 p.4 q.4)
