-- The occurrences of the items of a record, and that they cover it.
use Rattle.std.specs.Prelude.{◌≡◌, ℕ, zero, suc, ◌+◌, ◌<◌, ◌≤◌, Bool, true, false, ◌&&◌, nat_le, nat_lt, count_by, List, [], ◌∷◌, ◌++◌, map, Option, Some, None}
use Rattle.cob_copybook_tree.specs.declared.node.Kind.{Kind}
use Rattle.cob_copybook_tree.specs.declared.node.Kind.TheVariants.{Group, Item as ItemKind}
use Rattle.cob_copybook_tree.specs.Forests.{Forest, NoEntries, AnEntry, entries_in}
use Rattle.cob_copybook_tree.specs.Nodes.{Resolved}
use Rattle.cob_copybook_tree.specs.Lengths.{greatest_number, sum_of}
use Rattle.cob_layout_places.specs.declared.places.Found.{Found}
use Rattle.cob_layout_places.specs.Lengths.{times}
use Rattle.cob_layout_places.specs.Places.{place_of, is_table}

-- one occurrence of an item: its number, and its subscripts
pub record Occurrence : Type 0 where
  pub number : ℕ
  pub subscripts : List ℕ

-- f 0, f 1 and so on, n of them
abbrev pub several : {X : Type 0} → (ℕ → List X) → ℕ → List X
several f zero = []
several f (suc n) = several f n ++ f n

-- an occurrence under one more subscript
abbrev pub under : ℕ → Occurrence → Occurrence
under s r = record { number = r.number; subscripts = s ∷ r.subscripts }

-- what there is in each element of a table, under its subscript, which counts from 1; or in the one element that there is
abbrev pub each : {X : Type 0} → (ℕ → X → X) → Bool → ℕ → (ℕ → List X) → List X
each with false times f = several f times
each with true times f = several (λ k. map (with (k + 1)) (f k)) times

-- nothing is listed of a redefinition
abbrev pub unless : {X : Type 0} → Option (List ℕ) → List X → List X
unless None xs = xs
unless (Some name) xs = []

-- an item itself, or what stands beneath a group
abbrev pub item_or : {X : Type 0} → Kind → X → List X → List X
item_or Group x xs = xs
item_or (ItemKind i) x xs = x ∷ []

-- the occurrences of the items that stand in no redefinition, in the record's order
abbrev pub occurrences : (Resolved → ℕ) → Forest Resolved → List Occurrence
occurrences c NoEntries = []
occurrences c (AnEntry e children more) =
    unless e.redefines (each under (is_table e.occurs) (c e) (λ k. item_or e.kind (record { number = e.number; subscripts = [] }) (occurrences c children)))
    ++ occurrences c more

-- an offset is within a place
abbrev pub holds : ℕ → ℕ → ℕ → Bool
holds o offset length = nat_le offset o && nat_lt o (offset + length)

-- an offset is within a place of an element that is there
abbrev pub holds_in : ℕ → Option Found → Bool
holds_in o None = false
holds_in o (Some f) = f.within && holds o f.offset f.length

-- the entries have the numbers from n on, each before those beneath it
abbrev pub AreNumbered : ℕ → Forest Resolved → Type 0
AreNumbered n NoEntries = Unit {0}
AreNumbered n (AnEntry e children more) = (e.number ≡ n) × AreNumbered (n + 1) children × AreNumbered (n + 1 + entries_in children) more

-- a way to count entries: one that is no table once, and none more often than its greatest number
pub record CountsOccurrences (c : Resolved → ℕ) : Type 0 where
  pub once : (e : Resolved) → is_table e.occurs ≡ false → c e ≡ 1
  pub most : (e : Resolved) → c e ≤ greatest_number e

-- each offset below the length of the entries is in the place of exactly one occurrence
abbrev pub IsCovered : (Resolved → ℕ) → Forest Resolved → Type 0
IsCovered c f = (o : ℕ) → o < sum_of c f → count_by (λ (r : Occurrence). holds_in o (place_of c r.number f 0 0 r.subscripts)) (occurrences c f) ≡ 1

-- the entries of a record are covered, under whatever counts, and under the greatest ones
abbrev pub Covering : Type 0
Covering = (c : Resolved → ℕ) (f : Forest Resolved) → CountsOccurrences c → AreNumbered 0 f → IsCovered c f
