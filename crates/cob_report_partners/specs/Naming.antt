-- The qualifiers that an entry needs to be named.
use Rattle.std.specs.Prelude.{◌≡◌, ℕ, ◌+◌, ◌<◌, ◌≤◌, bytes_eq, if◌then◌else◌, IsTrue, List, [], ◌∷◌, ◌++◌, length, take}
use Rattle.cob_copybook_names.specs.Naming.{Bearer, has_name, named}
use Rattle.cob_report_partners.specs.Entries.{DraftEntry}
use Rattle.cob_report_partners.specs.declared.naming.NameSpread.{NameSpread}

-- The name, with so many of these qualifiers, names one entry of all alone.
abbrev pub NamesOne : List ℕ → List (List ℕ) → ℕ → List (Bearer DraftEntry) → Type 0
NamesOne name above count all = length (named name (take count above) all) ≡ 1

-- so many of them are needed: with them one entry is named alone, and with fewer none is
pub record IsNeeded (name : List ℕ) (above : List (List ℕ)) (all : List (Bearer DraftEntry)) (count : ℕ) : Type 0 where
  pub names : NamesOne name above count all
  pub fewer : (k : ℕ) → k < count → NamesOne name above k all → ⊥

-- how many of these qualifiers, the nearest first, name groups above an entry that has these
abbrev pub reach : List (List ℕ) → List (List ℕ) → ℕ
reach [] above = 0
reach (q ∷ qs) [] = 0
reach (q ∷ qs) (a ∷ above) = if bytes_eq q a then reach qs above + 1 else reach (q ∷ qs) above

-- so many entries are named with k qualifiers: none, one or several, as k is to the two counts
pub record IsSpread (s : NameSpread) (k : ℕ) (count : ℕ) : Type 0 where
  pub sorted : s.next ≤ s.most
  pub none : s.most ≤ k → count ≡ 0
  pub one : s.next ≤ k → k < s.most → count ≡ 1
  pub several : k < s.next → 1 < count

-- with each number of these qualifiers, from none to all, as many of the entries are named as it says
pub record Spreads (s : NameSpread) (name : List ℕ) (above : List (List ℕ)) (all : List (Bearer DraftEntry)) : Type 0 where
  pub most : s.most ≤ length above + 1
  pub each : (k : ℕ) → k ≤ length above → IsSpread s k (length (named name (take k above) all))

-- a spread over some entries became this one with further ones behind them
abbrev pub SpreadsOn : (before now : NameSpread) → List ℕ → List (List ℕ) → List (Bearer DraftEntry) → Type 0
SpreadsOn before now name above more =
    (front : List (Bearer DraftEntry)) → Spreads before name above front → Spreads now name above (front ++ more)

-- so it did with one that bears the name, whichever this is, and stands in groups of these names
abbrev pub SpreadsOnNamed : (before now : NameSpread) → (qualifiers above : List (List ℕ)) → Type 0
SpreadsOnNamed before now qualifiers above = (name : List ℕ) (bearer : Bearer DraftEntry) (front : List (Bearer DraftEntry))
    → IsTrue (has_name name bearer.name) → bearer.above ≡ above → Spreads before name qualifiers front
    → Spreads now name qualifiers (front ++ bearer ∷ [])
