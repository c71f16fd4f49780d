-- Entries that moves leave as they are.
use Rattle.std.specs.Prelude.{◌≡◌, ◌⊎◌, ℕ, ◌+◌, ◌≤◌, true, false, List, Some, Ok}
use Rattle.std.specs.List.{AllByRecursion}
use Rattle.cob_copybook_tree.specs.Forests.{Forest}
use Rattle.cob_copybook_tree.specs.Nodes.{Resolved}
use Rattle.cob_layout.specs.declared.fields.Place.{Place}
use Rattle.cob_layout_places.specs.declared.places.Found.{Found}
use Rattle.cob_layout_places.specs.Lengths.{times}
use Rattle.cob_layout_places.specs.Places.{place_of}
use Rattle.cob_layout_places.specs.References.{Refers}
use Rattle.cob_move_data.specs.declared.operands.Operand.{Operand}
use Rattle.cob_move_data.specs.declared.operands.Side.TheVariants.{In, Out}
use Rattle.cob_move_data.specs.Moves.{Move, Records, operand_in}
use Rattle.cob_move_apply.specs.Located.{Located}
use Rattle.cob_move_apply.specs.Placed.{IsFixed}
use Rattle.cob_move_apply.specs.declared.placed.PlacedEntry.{PlacedEntry}

-- wherever a receiver stands in a storage, it begins at this byte or behind it
abbrev pub BeginsFrom : Forest Resolved → ℕ → Operand → Type 0
BeginsFrom tree byte o = (bytes : List ℕ) (p : Place) → Located Out tree true o bytes (Ok p) → byte ≤ p.offset

-- so does each receiver of these moves
abbrev pub AllBeginFrom : Forest Resolved → ℕ → List Move → Type 0
AllBeginFrom tree byte ms = AllByRecursion (λ (m : Move). AllByRecursion (BeginsFrom tree byte) m.receivers) ms

-- the entry stands at one place in every storage of the output record, and each receiver of these moves begins behind that
abbrev pub StandsBefore : Records → List Move → PlacedEntry → Type 0
StandsBefore r ms e = (p : Place) × IsFixed r.output false (operand_in r.output e.entry) p × AllBeginFrom r.output (p.offset + p.length) ms

-- Moves spare an entry that is read: it is one of the input record, which no move changes; or one of the output record that stands before all their receivers.
abbrev pub SpareEntry : Records → List Move → PlacedEntry → Type 0
SpareEntry r ms e = (e.side ≡ In) ⊎ ((e.side ≡ Out) × StandsBefore r ms e)

-- ---- how it is seen

-- no element of the entry with this number begins before this byte, whatever the counts
abbrev pub NoneBefore : Forest Resolved → ℕ → ℕ → Type 0
NoneBefore tree byte number = (counts subscripts : List ℕ) (f : Found) → Refers number subscripts tree
    → place_of (times counts) number tree 0 0 subscripts ≡ Some f → byte ≤ f.offset
