-- What is known of the entries of a record whatever the counts, and how subscripts move the first element of an entry.
use Rattle.std.specs.Prelude.{ℕ, ◌+◌, ◌-◌, ◌*◌, ◌&&◌, nat_le, true, List, [], ◌∷◌, ◌++◌, slice_index_or}
use Rattle.cob_copybook_tree.specs.declared.node.ResolvedOccurs.{ResolvedOccurs}
use Rattle.cob_copybook_tree.specs.declared.node.ResolvedOccurs.TheVariants.{Once, Fixed, Varying}
use Rattle.cob_copybook_tree.specs.Forests.{Forest, NoEntries, AnEntry, entries_in}
use Rattle.cob_copybook_tree.specs.Nodes.{Resolved}
use Rattle.cob_layout_places.specs.declared.places.Found.{Found}
use Rattle.cob_layout_places.specs.declared.spots.Spot.{Spot}
use Rattle.cob_layout.specs.declared.ways.Way.{Way}

-- the number of an entry that is a table
abbrev pub own_table : ResolvedOccurs → ℕ → List ℕ
own_table Once number = []
own_table (Fixed n) number = number ∷ []
own_table (Varying least most count) number = number ∷ []

-- of an entry: the tables that hold it or that it is, the outermost first, and the number behind the last entry beneath it
pub record Held : Type 0 where
  pub tables : List ℕ
  pub end : ℕ

-- this of each entry, in their order, where these tables hold them all
abbrev pub held_in : List ℕ → Forest Resolved → List Held
held_in over NoEntries = []
held_in over (AnEntry e children more) =
    let own = over ++ own_table e.occurs e.number in
    record { tables = own; end = e.number + 1 + entries_in children } ∷ (held_in own children ++ held_in over more)

-- this of an entry, as it is kept
abbrev pub held : Way → Held
held w = record { tables = w.tables.items; end = w.end }

-- the spot of an entry
abbrev pub spot_at : List Spot → ℕ → Spot
spot_at spots k = slice_index_or spots k (record { offset = 0; length = 0; times = 0 })

-- an element, moved by one subscript of this table, behind the elements before it
abbrev pub moved_once : Found → Spot → ℕ → Found
moved_once f t s = record { offset = f.offset + (s - 1) * t.length; length = f.length; within = f.within && nat_le s t.times }

-- an element, moved by the subscripts of these tables, the outermost first, each behind the elements before it
abbrev pub moved : List Spot → List ℕ → List ℕ → Found → Found
moved spots [] subscripts f = f
moved spots (t ∷ ts) [] f = f
moved spots (t ∷ ts) (s ∷ subscripts) f =
    moved spots ts subscripts (moved_once f (spot_at spots t) s)

-- the first element of an entry
abbrev pub first_element : List Spot → ℕ → Found
first_element spots k = let own = spot_at spots k in record { offset = own.offset; length = own.length; within = true }

-- what is held of an entry
abbrev pub held_at : List Held → ℕ → Held
held_at all k = slice_index_or all k (record { tables = []; end = 0 })

-- the outermost of these tables, else the entry itself
abbrev pub outermost : List ℕ → ℕ → ℕ
outermost [] r = r
outermost (t ∷ ts) r = t

-- the number behind the last entry beneath the outermost table that holds the entry or that it is, else beneath the entry
abbrev pub end_of_table : List Held → ℕ → ℕ
end_of_table all r = (held_at all (outermost (held_at all r).tables r)).end
