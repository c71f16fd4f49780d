-- Trees of entries, as one plain list of trees.
use Rattle.std.specs.Prelude.{ℕ, ◌+◌, ◌<◌, ◌≤◌, List, [], ◌∷◌, ◌++◌}

-- nothing, or an entry with those beneath it, and the further ones beside it
pub data Forest (A : Type 0) : Type 0 where
  NoEntries : Forest A
  AnEntry : A → Forest A → Forest A → Forest A

-- the entries, a parent before its children
abbrev pub flat : {A : Type 0} → Forest A → List A
flat NoEntries = []
flat (AnEntry e children more) = e ∷ (flat children ++ flat more)

-- how many entries there are
abbrev pub entries_in : {A : Type 0} → Forest A → ℕ
entries_in NoEntries = 0
entries_in (AnEntry e children more) = 1 + entries_in children + entries_in more

-- all of the first row are deeper
abbrev pub AreDeeper : {A : Type 0} → (A → ℕ) → ℕ → Forest A → Type 0
AreDeeper level l NoEntries = Unit {0}
AreDeeper level l (AnEntry e children more) = (l < level e) × AreDeeper level l more

-- the first isn't deeper
abbrev pub NotDeeper : {A : Type 0} → (A → ℕ) → ℕ → Forest A → Type 0
NotDeeper level l NoEntries = Unit {0}
NotDeeper level l (AnEntry e children more) = level e ≤ l

-- each entry's parent is the nearest one before it with a smaller level
abbrev pub IsTree : {A : Type 0} → (A → ℕ) → Forest A → Type 0
IsTree level NoEntries = Unit {0}
IsTree level (AnEntry e children more) = AreDeeper level (level e) children × IsTree level children × NotDeeper level (level e) more × IsTree level more

-- an entry with those beneath it
pub record Tree (A : Type 0) : Type 0 where
  pub top : A
  pub beneath : Forest A

-- trees side by side
abbrev pub grown : {A : Type 0} → List (Tree A) → Forest A
grown [] = NoEntries
grown (t ∷ ts) = AnEntry t.top t.beneath (grown ts)
