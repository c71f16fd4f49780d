-- REDEFINES: areas, and the entries that share them.
use Rattle.std.specs.Prelude.{◌≡◌, ◌⊎◌, ℕ, ◌≤◌, ◌<◌, Bool, true, false, ◌||◌, List, [], ◌∷◌, ◌++◌, Option, Some, None}
use Rattle.cob_copybook_tree.specs.declared.node.ResolvedOccurs.TheVariants.{Once}
use Rattle.cob_copybook_tree.specs.declared.node.Kind.{Kind}
use Rattle.cob_copybook_tree.specs.declared.node.Kind.TheVariants.{Group, Item as ItemKind}
use Rattle.cob_copybook_tree.specs.Forests.{Forest, NoEntries, AnEntry, Tree}
use Rattle.cob_copybook_tree.specs.Nodes.{Resolved, MayHold, is_varying}
use Rattle.cob_copybook_tree.specs.Lengths.{greatest_number, whole_length}

-- whether one of the entries is a table that varies
abbrev pub hold_varying : Forest Resolved → Bool
hold_varying NoEntries = false
hold_varying (AnEntry e children more) = is_varying e.occurs || (hold_varying children || hold_varying more)

-- the entry isn't a table that varies, and holds none
abbrev pub HasFixedLength : Tree Resolved → Type 0
HasFixedLength t = hold_varying (AnEntry t.top t.beneath NoEntries) ≡ false

-- one of the entries of an area has this name and level
abbrev pub Bears : List ℕ → ℕ → List (Tree Resolved) → Type 0
Bears name level [] = ⊥
Bears name level (t ∷ ts) = ((t.top.name ≡ Some name) × (t.top.level ≡ level)) ⊎ Bears name level ts

-- An entry may redefine the area that this one began: that is no table, neither of both varies, and the entry with all its occurrences isn't
-- longer than the area.
pub record FitsArea (first t : Tree Resolved) : Type 0 where
  pub once : first.top.occurs ≡ Once
  pub steady : HasFixedLength first
  pub also_steady : HasFixedLength t
  pub fits : whole_length greatest_number t.top t.beneath ≤ whole_length greatest_number first.top first.beneath

-- an entry may redefine the area of these, which the first of them began
abbrev pub FitsFirst : List (Tree Resolved) → Tree Resolved → Type 0
FitsFirst [] t = ⊥
FitsFirst (first ∷ ts) t = FitsArea first t

-- an entry may stand behind these, which share an area: it begins one of its own, or redefines this one by the name of one of them that has
-- its level
abbrev pub MayFollow : Option (List ℕ) → List (Tree Resolved) → Tree Resolved → Type 0
MayFollow None area t = Unit {0}
MayFollow (Some name) area t = Bears name t.top.level area × FitsFirst area t

-- the entries that share the area of the last one of these
abbrev pub area_with : Option (List ℕ) → List (Tree Resolved) → Tree Resolved → List (Tree Resolved)
area_with None area t = t ∷ []
area_with (Some name) area t = area ++ t ∷ []

-- behind entries that share an area, redefinitions stand where they may
abbrev pub AreAreas : List (Tree Resolved) → Forest Resolved → Type 0
AreAreas area NoEntries = Unit {0}
AreAreas area (AnEntry e children more) =
    MayFollow e.redefines area (record { top = e; beneath = children }) × AreAreas [] children × AreAreas (area_with e.redefines area (record { top = e; beneath = children })) more

-- each entry occurs at least once under greatest counts, and has others beneath it only if it is a group
abbrev pub ArePossible : Forest Resolved → Type 0
ArePossible NoEntries = Unit {0}
ArePossible (AnEntry e children more) = (0 < greatest_number e) × MayHold e.kind children × ArePossible children × ArePossible more
