-- Entries that are read between moves.
use Rattle.std.specs.Prelude.{false}
use Rattle.cob_move_data.specs.Moves.{Records, operand_in, record_of}
use Rattle.cob_move_apply.specs.Placed.{IsPlaced}
use Rattle.cob_move_apply.specs.declared.placed.PlacedEntry.{PlacedEntry}

-- the entry is one of its record, and what is noted of its place is what this may rest on
abbrev pub IsPlacedEntry : Records → PlacedEntry → Type 0
IsPlacedEntry r p = IsPlaced (record_of r p.side) false (operand_in (record_of r p.side) p.entry) p.basis
