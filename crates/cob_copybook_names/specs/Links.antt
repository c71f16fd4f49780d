-- Names linked: from the last entry that bears a name to the one before it, and so on.
use Rattle.std.specs.Prelude.{◌≡◌, ℕ, ◌+◌, ◌<◌, ◌≤◌, List, slice_index_or, Option, Some, None}
use Rattle.std.specs.Borrow.{Bor}
use Rattle.std.specs.Cmp.Lexicographic.{pointwise}
use Rattle.std.specs.Bool.{nat_eq}
use Rattle.indexmap.specs.IndexMap.{IndexMap, get_by}

-- the entry at this place bears the name
abbrev pub BearsAt : List (Option (List ℕ)) → List ℕ → ℕ → Type 0
BearsAt names name place = slice_index_or names place None ≡ Some name

-- how many entries there are up to this place, with it
abbrev pub entries_up_to : Option ℕ → ℕ
entries_up_to None = 0
entries_up_to (Some place) = place + 1

-- the place is that of the last of the first k entries that bears the name; none is so where none of them bears it
pub record IsLast (names : List (Option (List ℕ))) (name : List ℕ) (k : ℕ) (place : Option ℕ) : Type 0 where
  pub before : entries_up_to place ≤ k
  pub bears : (p : ℕ) → place ≡ Some p → BearsAt names name p
  pub others : (j : ℕ) → entries_up_to place ≤ j → j < k → BearsAt names name j → ⊥

-- each of the first k entries that bears a name has the last one before it that bears the same name
abbrev pub AreLinked : List (Option (List ℕ)) → List (Option ℕ) → ℕ → Type 0
AreLinked names earlier k = (j : ℕ) (name : List ℕ) → j < k → BearsAt names name j → IsLast names name j (slice_index_or earlier j None)

-- what is noted for a name
abbrev pub noted_for : {S : Type 0} → IndexMap (Bor (List ℕ)) ℕ S → List ℕ → Option ℕ
noted_for noted name = get_by (λ k. pointwise nat_eq name k.now) noted
