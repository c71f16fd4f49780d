-- What entries hold at their places, before the first move.
use Rattle.std.specs.Prelude.{◌≡◌, ◌⊎◌, ℕ, List, take, drop, None, IsSomeAnd}
use Rattle.cob_copybook_tree.specs.declared.node.Kind.TheVariants.{Group}
use Rattle.cob_copybook_tree.specs.Forests.{Forest, NoEntries, AnEntry}
use Rattle.cob_copybook_tree.specs.Nodes.{Resolved}
use Rattle.cob_copybook_tree.specs.Lengths.{greatest_number, sum_of}
use Rattle.cob_layout_places.specs.Places.{place_of}
use Rattle.cob_move_initial.specs.Initial.{HoldsElement, IsInitial}

-- the entry, with just these beneath it, is one of these or stands beneath one, in no redefinition and beneath no group with a value
abbrev pub HaveEntry : Forest Resolved → Resolved → Forest Resolved → Type 0
HaveEntry NoEntries entry beneath = ⊥
HaveEntry (AnEntry e children more) entry beneath =
    ((e.redefines ≡ None) × (((e ≡ entry) × (children ≡ beneath)) ⊎ ((e.kind ≡ Group) × (e.value ≡ None) × HaveEntry children entry beneath)))
    ⊎ HaveEntry more entry beneath

-- Each such entry has places, whatever the subscripts, where tables have their greatest number of elements; and the bytes at each of them hold
-- what one element of it does: what its item does, or, of a group, its VALUE or the entries beneath it.
abbrev pub HoldAtPlaces : Forest Resolved → List ℕ → Type 0
HoldAtPlaces f bytes = (entry : Resolved) (beneath : Forest Resolved) (subscripts : List ℕ) → HaveEntry f entry beneath
    → IsSomeAnd (place_of greatest_number entry.number f 0 0 subscripts) (λ p. HoldsElement entry.kind entry.value (sum_of greatest_number beneath) (IsInitial beneath) (take p.length (drop p.offset bytes)))
