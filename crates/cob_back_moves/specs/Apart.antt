-- Records in which no two entries share storage and no table varies, and the places of their items.
use Rattle.std.specs.Prelude.{◌≡◌, ◌⊎◌, ℕ, ◌+◌, ◌≤◌, List, [], None, Some}
use Rattle.cob_copybook_tree.specs.declared.node.Item.{Item}
use Rattle.cob_copybook_tree.specs.declared.node.Kind.TheVariants.{Item as ItemKind}
use Rattle.cob_copybook_tree.specs.Forests.{Forest, NoEntries, AnEntry}
use Rattle.cob_copybook_tree.specs.Nodes.{Resolved}
use Rattle.cob_copybook_tree.specs.Lengths.{greatest_number}
use Rattle.cob_copybook.specs.Books.{IsRecordDescription}
use Rattle.cob_layout_places.specs.declared.places.Found.{Found}
use Rattle.cob_layout_places.specs.Counts.{kind_in, tables_of}
use Rattle.cob_layout_places.specs.Places.{place_of}
use Rattle.cob_layout_places.specs.References.{Refers}

-- no entry redefines another
abbrev pub RedefineNone : Forest Resolved → Type 0
RedefineNone NoEntries = Unit {0}
RedefineNone (AnEntry e children more) = (e.redefines ≡ None) × RedefineNone children × RedefineNone more

-- no table varies
abbrev pub VaryNone : Forest Resolved → Type 0
VaryNone tree = tables_of tree ≡ []

-- The record stands in one way: no entry redefines another and no table varies, so that each byte is in one item, whatever the bytes are.
pub record StandsOneWay (tree : Forest Resolved) : Type 0 where
  pub own : RedefineNone tree
  pub steady : VaryNone tree

-- one of the places ends before the other begins
abbrev pub AreApart : Found → Found → Type 0
AreApart p q = (p.offset + p.length ≤ q.offset) ⊎ (q.offset + q.length ≤ p.offset)

-- in a record without redefinitions, two occurrences of items that aren't one stand apart
abbrev pub OccurrencesApart : Type 0
OccurrencesApart = (tree : Forest Resolved) (r q : ℕ) (rs qs : List ℕ) (i j : Item) (a b : Found) → IsRecordDescription tree → RedefineNone tree
    → Refers r rs tree → kind_in r tree ≡ Some (ItemKind i) → Refers q qs tree → kind_in q tree ≡ Some (ItemKind j)
    → place_of greatest_number r tree 0 0 rs ≡ Some a → place_of greatest_number q tree 0 0 qs ≡ Some b
    → (r ≡ q → rs ≡ qs → ⊥) → AreApart a b
