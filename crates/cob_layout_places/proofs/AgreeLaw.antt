-- Storages that agree have the same counts.
use Rattle.std.proofs.Common.{◌≡◌, ℕ, ◌+◌, ◌<◌, ◌≤◌, List, [], ◌∷◌, length, refl, sym, subst, arith, Bool, true, false, inl, inr, Ok, Err, Result, ◌*◌}
use Rattle.std.specs.Prelude.{slice_set, slice_index}
use Rattle.cob_copybook_tree.specs.declared.node.Item.{Item}
use Rattle.cob_copybook_tree.specs.Forests.{Forest, NoEntries, AnEntry, entries_in}
use Rattle.cob_copybook_tree.specs.Nodes.{Resolved}
use Rattle.cob_copybook_tree.specs.Lengths.{own_length, length_by_kind, sum_of}
use Rattle.cob_layout_places.specs.declared.counts.CountFault.{CountFault}
use Rattle.cob_layout_places.specs.declared.places.Found.{Found}
use Rattle.cob_layout_places.specs.declared.varying.Table.{Table}
use Rattle.cob_layout_places.specs.Lengths.{times, times_by}
use Rattle.cob_layout_places.specs.Cover.{AreNumbered}
use Rattle.cob_layout_places.specs.Counts.{bytes_at, IsCountValue, IsFaulty, SaysOfTable, IsCounted}
use Rattle.cob_layout_places.specs.Agree.{AgreeOnCounts, SameCounts}

same_faulty : (s : Bool) (i : Item) (x : Table) (f : Found) (a b : List ℕ) → length a ≡ length b → bytes_at f.offset f.length a ≡ bytes_at f.offset f.length b → IsFaulty s i x f a → IsFaulty s i x f b
same_faulty true i x f a b n p h = omega (arith, n, h)
same_faulty false i x f a b n p h = (omega (arith, n, h.0), λ v is. h.1 v (subst (λ (q : List ℕ). IsCountValue i x q v) (sym p) is))

same_says : (i : Item) (x : Table) (f : Found) (a b : List ℕ) (r : Result ℕ CountFault) → length a ≡ length b → bytes_at f.offset f.length a ≡ bytes_at f.offset f.length b → SaysOfTable i x f a r → SaysOfTable i x f b r
same_says i x f a b (Ok v) n p h = (omega (arith, n, h.0), subst (λ (q : List ℕ). IsCountValue i x q v) p h.1)
same_says i x f a b (Err e) n p h = (h.0, same_faulty e.short i x f a b n p h.1)

same_counted : (t : Forest Resolved) (a b : List ℕ) (x : Table) (xs : List Table) (c : List ℕ) (r : Result ℕ CountFault) → length a ≡ length b → AgreeOnCounts t a b (x ∷ xs) c
    → IsCounted t a x c r → IsCounted t b x c r
same_counted t a b x xs c r n h k = record { item = k.item; is = k.is; found = k.found; stands = k.stands; says = same_says k.item x k.found a b r n (h.0 k.found k.stands) k.says }

pub same_counts : SameCounts
same_counts t a b [] c r n h k = k
same_counts t a b (x ∷ xs) c r n h (inl k) =
    inl (k.0, same_counted t a b x xs c (Ok k.0) n h k.1, same_counts t a b xs (slice_set c x.number k.0) r n (h.1 k.0 k.1) k.2)
same_counts t a b (x ∷ xs) c r n h (inr k) = inr (k.0, same_counted t a b x xs c (Err k.0) n h k.1, k.2)

-- the counts agree on the tables before this number
abbrev pub AgreeBelow : ℕ → List ℕ → List ℕ → Type 0
AgreeBelow n c d = (k : ℕ) → k < n → slice_index c k ≡ slice_index d k

-- counts that agree on the entries give them one length
pub sum_same : (c d : List ℕ) (f : Forest Resolved) (n m : ℕ) → AreNumbered n f → n + entries_in f ≤ m → AgreeBelow m c d → sum_of (times c) f ≡ sum_of (times d) f
sum_same c d NoEntries n m h l g = refl
sum_same c d (AnEntry e children more) n m h l g =
    let k : slice_index c e.number ≡ slice_index d e.number = g e.number (omega (arith, h.0)) in
    let b = sum_same c d children (n + 1) m h.1 (omega arith) g in
    let r = sum_same c d more (n + 1 + entries_in children) m h.2 (omega arith) g in
    λ j. own_length e.redefines (times_by (k j) e.occurs * length_by_kind e.kind (b j)) + r j
