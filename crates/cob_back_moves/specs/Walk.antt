-- The occurrences of the named items of a record, the outermost subscripts first.
use Rattle.std.specs.Prelude.{◌≡◌, ◌⊎◌, ℕ, List, [], ◌++◌, IsSome}
use Rattle.cob_copybook_tree.specs.declared.node.Kind.TheVariants.{Item as ItemKind}
use Rattle.cob_copybook_tree.specs.declared.node.Item.{Item}
use Rattle.cob_copybook_tree.specs.Forests.{Forest, NoEntries, AnEntry}
use Rattle.cob_copybook_tree.specs.Nodes.{Resolved}
use Rattle.cob_copybook_tree.specs.Lengths.{greatest_number}
use Rattle.cob_layout_places.specs.Places.{is_table, later}
use Rattle.cob_layout_places.specs.References.{IsSubscripted}

-- the entry is a named item
pub record IsNamedEntry (e : Resolved) (r : ℕ) (i : Item) : Type 0 where
  pub number : e.number ≡ r
  pub kind : e.kind ≡ ItemKind i
  pub named : IsSome e.name

-- the entry r is one of these or stands beneath one, and is a named item; and the subscripts are one for each table that holds it or that it is
abbrev pub HasItem : ℕ → List ℕ → Item → Forest Resolved → Type 0
HasItem r rs i NoEntries = ⊥
HasItem r rs i (AnEntry e children more) =
    (IsSubscripted (is_table e.occurs) (greatest_number e) rs
    × (((later (is_table e.occurs) rs ≡ []) × IsNamedEntry e r i) ⊎ HasItem r (later (is_table e.occurs) rs) i children))
    ⊎ HasItem r rs i more

-- one element of the entry is or holds such an item
abbrev pub ElementHas : Resolved → Forest Resolved → ℕ → List ℕ → Item → Type 0
ElementHas e children r rs i = ((rs ≡ []) × IsNamedEntry e r i) ⊎ HasItem r rs i children

-- one of its elements does
abbrev pub EntryHas : Resolved → Forest Resolved → ℕ → List ℕ → Item → Type 0
EntryHas e children r rs i = IsSubscripted (is_table e.occurs) (greatest_number e) rs × ElementHas e children r (later (is_table e.occurs) rs) i

-- of all items that there are beneath tables with these subscripts, this holds
abbrev pub AllFine : (ℕ → List ℕ → Item → Type 0) → (ℕ → List ℕ → Item → Type 0) → List ℕ → Type 0
AllFine Fine Has above = (r : ℕ) (rs : List ℕ) (i : Item) → Has r rs i → Fine r (above ++ rs) i

-- an occurrence of the item r is among them of which it doesn't hold
abbrev pub IsLostEntry : (ℕ → List ℕ → Item → Type 0) → (ℕ → List ℕ → Item → Type 0) → List ℕ → ℕ → Type 0
IsLostEntry Fine Has above r = (rs : List ℕ) × (i : Item) × Has r rs i × (Fine r (above ++ rs) i → ⊥)
