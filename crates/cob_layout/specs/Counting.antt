-- The counts of a record.
use Rattle.std.specs.Prelude.{◌≡◌, ◌⊎◌, ℕ, Bool, true, List, [], ◌∷◌, ◌++◌, Result, replicate}
use Rattle.cob_copybook_tree.specs.declared.node.ResolvedOccurs.{ResolvedOccurs}
use Rattle.cob_copybook_tree.specs.declared.node.ResolvedOccurs.TheVariants.{Once, Fixed, Varying}
use Rattle.cob_copybook_tree.specs.Forests.{Forest, NoEntries, AnEntry, entries_in}
use Rattle.cob_copybook_tree.specs.Nodes.{Resolved}
use Rattle.cob_copybook_tree.specs.Lengths.{greatest_number, sum_of}
use Rattle.cob_layout_places.specs.declared.counts.CountFault.{CountFault}
use Rattle.cob_layout_places.specs.declared.varying.Table.{Table}
use Rattle.cob_layout_places.specs.Lengths.{times}
use Rattle.cob_layout_places.specs.Places.{place_of}
use Rattle.cob_layout_places.specs.Counts.{tables_of, Taken}
use Rattle.cob_layout_places.specs.Needs.{greatest, IsSpared, Needs}

-- the greatest counts of a record, by the numbers of its entries; entries that don't vary have 0
abbrev pub greatest_counts : Forest Resolved → List ℕ
greatest_counts tree = greatest (tables_of tree) (replicate (entries_in tree) 0)

-- the greatest count of an entry, and 0 where it doesn't vary
abbrev pub varying : ResolvedOccurs → ℕ
varying Once = 0
varying (Fixed n) = 0
varying (Varying least most count) = most

-- the same of entries, in their order
abbrev pub in_order : Forest Resolved → List ℕ
in_order NoEntries = []
in_order (AnEntry e children more) = varying e.occurs ∷ (in_order children ++ in_order more)

-- The counts of a storage: those that its bytes give to all tables that vary, one behind another, or the fault of the first that gives none.
abbrev pub CountsOf : Forest Resolved → List ℕ → Result (List ℕ) CountFault → Type 0
CountsOf tree bytes r = Taken tree bytes (tables_of tree) (greatest_counts tree) r

-- A reference to entry r is spared the count of the table x: it receives, no later entry outside r follows r, and x and its count stand beneath r.
abbrev pub IsSparedOf : Forest Resolved → ℕ → Bool → Table → Type 0
IsSparedOf tree r receiving x = (receiving ≡ true) × IsSpared r x tree

-- A reference to entry r reads the count of the table x: x stands before r, is r, holds r, stands beneath r or beneath a table that holds r, and
-- the reference isn't spared it.
abbrev pub IsRead : Forest Resolved → ℕ → Bool → Table → Type 0
IsRead tree r receiving x = Needs r x.number tree × (IsSparedOf tree r receiving x → ⊥)

-- these are those of the tables that are so, in their order
abbrev pub AreThose : (Table → Type 0) → List Table → List Table → Type 0
AreThose is [] those = those ≡ []
AreThose is (x ∷ xs) those =
    (is x × ((others : List Table) × (those ≡ x ∷ others) × AreThose is xs others))
    ⊎ ((is x → ⊥) × AreThose is xs those)

-- The counts that a reference to an entry needs, which receives or not: those that the bytes give to the tables whose counts it reads, one behind
-- another, or the fault of the first that gives none; the other tables have their greatest number.
abbrev pub NeededOf : Forest Resolved → ℕ → Bool → List ℕ → Result (List ℕ) CountFault → Type 0
NeededOf tree r receiving bytes result =
    (xs : List Table) × AreThose (IsRead tree r receiving) (tables_of tree) xs
    × Taken tree bytes xs (greatest_counts tree) result

-- a reference to an entry reads no count: its place is the same in every storage
abbrev pub ReadsNone : Forest Resolved → ℕ → Bool → Type 0
ReadsNone tree r receiving = AreThose (IsRead tree r receiving) (tables_of tree) []

-- under these counts each entry occurs as often as at most: the lengths and places are the greatest ones
pub record AreGreatest (tree : Forest Resolved) (counts : List ℕ) : Type 0 where
  pub length : sum_of (times counts) tree ≡ sum_of greatest_number tree
  pub places : (number : ℕ) (subscripts : List ℕ) → place_of (times counts) number tree 0 0 subscripts ≡ place_of greatest_number number tree 0 0 subscripts
