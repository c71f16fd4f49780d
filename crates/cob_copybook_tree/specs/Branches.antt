-- Entries as they are written, as a tree.
use Rattle.std.specs.Prelude.{◌≡◌, ℕ, ◌<◌, ◌≤◌, List, [], ◌∷◌, map}
use Rattle.std.specs.List.{AllByRecursion}
use Rattle.cob_copybook_entry.specs.Described.{PlainEntry, plain_entry}
use Rattle.cob_copybook_tree.specs.declared.branch.Branch.{Branch}
use Rattle.cob_copybook_tree.specs.declared.branch.Branch.TheOpen.{Branch-F}
use Rattle.cob_copybook_tree.specs.declared.branch.Branch.TheFolds.{fold-Branch}
use Rattle.cob_copybook_tree.specs.Forests.{Forest, Tree, flat, IsTree, grown}

-- an entry, and the trees of its children beneath it
abbrev pub branch_step : Branch-F (Tree PlainEntry) → Tree PlainEntry
branch_step f = record { top = plain_entry f.entry; beneath = grown f.children.items }

-- a branch without where it lies in memory
abbrev pub branch : Branch → Tree PlainEntry
branch = fold-Branch (Tree PlainEntry) branch_step

-- branches side by side
abbrev pub forest_of : List Branch → Forest PlainEntry
forest_of bs = grown (map branch bs)

-- the level number of an entry
abbrev pub level_of : PlainEntry → ℕ
level_of d = d.level

-- levels 02 to 49
abbrev pub IsBelow : PlainEntry → Type 0
IsBelow d = (1 < d.level) × (d.level ≤ 49)

-- the first entry has level 01, and the others have levels 02 to 49
abbrev pub AreLevels : List PlainEntry → Type 0
AreLevels [] = ⊥
AreLevels (d ∷ ds) = (d.level ≡ 1) × AllByRecursion IsBelow ds

-- the entries stand for the tree: they are its entries, parent before children, and an entry's parent is the nearest one before it with
-- a smaller level
pub record StandsFor (ds : List PlainEntry) (t : Forest PlainEntry) : Type 0 where
  pub levels : AreLevels ds
  pub entries : flat t ≡ ds
  pub tree : IsTree level_of t
