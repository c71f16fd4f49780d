-- The storage before the first move, cut by lengths: it is one, and where its elements stand.
use Rattle.std.proofs.Common.{◌≡◌, ℕ, zero, suc, ◌+◌, ◌*◌, ◌<◌, ◌≤◌, List, ◌++◌, length, take, drop, Option, None, Some, sym, ap, ◌∙◌, subst, arith}
use Rattle.std.proofs.lemmas.List.{length-append, length-drop, take_at, take-append-le, drop_at, drop-drop, drop-append-le}
use Rattle.cob_copybook_entry.specs.Described.{PlainValue}
use Rattle.cob_copybook_tree.specs.declared.node.Kind.{Kind}
use Rattle.cob_copybook_tree.specs.declared.node.Kind.TheVariants.{Group, Item as ItemKind}
use Rattle.cob_copybook_tree.specs.Forests.{Forest, NoEntries, AnEntry}
use Rattle.cob_copybook_tree.specs.Nodes.{Resolved}
use Rattle.cob_copybook_tree.specs.Lengths.{greatest_number, own_length, sum_of, element_length}
use Rattle.cob_move_initial.specs.Initial.{AreParts, Unless, HoldsElement, IsInitial}
use Rattle.cob_move_initial.specs.Begun.{OfSize, AreBegun}

parts_by : (P Q : List ℕ → Type 0) → ((bytes : List ℕ) → P bytes → Q bytes) → (n : ℕ) (bytes : List ℕ) → AreParts P n bytes → AreParts Q n bytes
parts_by P Q turn zero bytes parts = parts
parts_by P Q turn (suc n) bytes parts = (parts.0, parts.1, parts.2, turn parts.0 parts.3, parts_by P Q turn n parts.1 parts.4)

unless_by : (o : Option (List ℕ)) (P Q : List ℕ → Type 0) → ((bytes : List ℕ) → P bytes → Q bytes) → (bytes : List ℕ) → Unless o P bytes → Unless o Q bytes
unless_by None P Q turn bytes is = turn bytes is
unless_by (Some name) P Q turn bytes is = is

pub element_by : (kind : Kind) (value : Option PlainValue) (size : ℕ) (P Q : List ℕ → Type 0) → ((bytes : List ℕ) → P bytes → Q bytes) → (bytes : List ℕ)
    → HoldsElement kind value size P bytes → HoldsElement kind value size Q bytes
element_by (ItemKind i) value size P Q turn bytes is = is
element_by Group None size P Q turn bytes is = turn bytes is
element_by Group (Some c) size P Q turn bytes is = is

-- it is the storage before the first move
pub begun_initial : (f : Forest Resolved) (bytes : List ℕ) → AreBegun f bytes → IsInitial f bytes
begun_initial NoEntries bytes begun = begun
begun_initial (AnEntry e children more) bytes begun =
    let one = element_by e.kind e.value (sum_of greatest_number children) (AreBegun children) (IsInitial children) (begun_initial children) in
    let parts = parts_by (OfSize (element_length greatest_number e children) (HoldsElement e.kind e.value (sum_of greatest_number children) (AreBegun children))) (HoldsElement e.kind e.value (sum_of greatest_number children) (IsInitial children)) (λ part is. one part is.1) (greatest_number e) in
    (begun.0, begun.1, begun.2, unless_by e.redefines _ _ parts begun.0 begun.3, begun_initial more begun.1 begun.4)

suc_product : (n size : ℕ) → suc n * size ≡ size + n * size
suc_product n size = grind arith

parts_length : (IsPart : List ℕ → Type 0) (size n : ℕ) (bytes : List ℕ) → AreParts (OfSize size IsPart) n bytes → length bytes ≡ n * size
parts_length IsPart size zero bytes parts = ap length parts ∙ sym (omega arith)
parts_length IsPart size (suc n) bytes parts =
    ap length parts.2 ∙ length-append parts.0 parts.1 ∙ omega (arith, parts.3.0, parts_length IsPart size n parts.1 parts.4, suc_product n size)

-- the bytes before the further entries
pub first_length : (o : Option (List ℕ)) (IsPart : List ℕ → Type 0) (size n : ℕ) (first : List ℕ) → Unless o (AreParts (OfSize size IsPart) n) first → length first ≡ own_length o (n * size)
first_length None IsPart size n first is = parts_length IsPart size n first is
first_length (Some name) IsPart size n first is = ap length is

-- the part behind k others
part_at : (IsPart : List ℕ → Type 0) (size n k : ℕ) (bytes : List ℕ) → k < n → AreParts (OfSize size IsPart) n bytes → OfSize size IsPart (take size (drop (k * size) bytes))
part_at IsPart size zero k bytes lt parts = absurd (omega arith)
part_at IsPart size (suc n) zero bytes lt parts =
    let none : zero * size ≡ 0 = omega arith in
    let is : take size (drop (zero * size) bytes) ≡ parts.0 = ap (λ (k : ℕ). take size (drop k bytes)) none ∙ ap (take size) parts.2 ∙ take_at parts.0 parts.1 size parts.3.0 in
    subst (OfSize size IsPart) (sym is) parts.3
part_at IsPart size (suc n) (suc k) bytes lt parts =
    let skip : drop (size + k * size) bytes ≡ drop (k * size) parts.1 = sym (drop-drop (k * size) size bytes) ∙ ap (drop (k * size)) (ap (drop size) parts.2 ∙ drop_at parts.0 parts.1 size parts.3.0) in
    let is : take size (drop (suc k * size) bytes) ≡ take size (drop (k * size) parts.1) = ap (λ (m : ℕ). take size (drop m bytes)) (suc_product k size) ∙ ap (take size) skip in
    subst (OfSize size IsPart) (sym is) (part_at IsPart size n k parts.1 (omega arith) parts.4)

unless_none : (o : Option (List ℕ)) (P : List ℕ → Type 0) (bytes : List ℕ) → o ≡ None → Unless o P bytes → P bytes
unless_none None P bytes none is = is
unless_none (Some name) P bytes none is = absurd cc

more_fits : (k n size : ℕ) → k < n → k * size + size ≤ n * size
more_fits k n size lt = grind arith

-- where the element behind k others stands, and what it holds
pub record IsElement (e : Resolved) (children : Forest Resolved) (k : ℕ) (bytes : List ℕ) : Type 0 where
  pub fits : k * element_length greatest_number e children + element_length greatest_number e children ≤ length bytes
  pub holds : HoldsElement e.kind e.value (sum_of greatest_number children) (AreBegun children) (take (element_length greatest_number e children) (drop (k * element_length greatest_number e children) bytes))

pub element_at : (e : Resolved) (children more : Forest Resolved) (k : ℕ) (bytes : List ℕ) → e.redefines ≡ None → k < greatest_number e → AreBegun (AnEntry e children more) bytes → IsElement e children k bytes
element_at e children more k bytes own lt begun =
    let size = element_length greatest_number e children in
    let Is : List ℕ → Type 0 = HoldsElement e.kind e.value (sum_of greatest_number children) (AreBegun children) in
    let parts : AreParts (OfSize size Is) (greatest_number e) begun.0 = unless_none e.redefines _ begun.0 own begun.3 in
    let long : length begun.0 ≡ greatest_number e * size = parts_length Is size (greatest_number e) begun.0 parts in
    let room : k * size + size ≤ length begun.0 = omega (arith, long, more_fits k (greatest_number e) size lt) in
    let front : drop (k * size) bytes ≡ drop (k * size) begun.0 ++ begun.1 = ap (drop (k * size)) begun.2 ∙ drop-append-le (k * size) begun.0 begun.1 (omega arith) in
    let is : take size (drop (k * size) bytes) ≡ take size (drop (k * size) begun.0) = ap (take size) front ∙ take-append-le size (drop (k * size) begun.0) begun.1 (simp length-drop (omega arith)) in
    record {
      fits = omega (arith, ap length begun.2, length-append begun.0 begun.1);
      holds = (subst (OfSize size Is) (sym is) (part_at Is size (greatest_number e) k begun.0 lt parts)).1;
    }
