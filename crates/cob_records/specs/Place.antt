-- Where in a stream of frames the next byte stands.
use Rattle.std.specs.Prelude.{◌==◌, ◌&&◌, Bool, true, nat_le, nat_lt, length}
use Rattle.cob_records.specs.declared.place.StreamPlace.{StreamPlace}
use Rattle.cob_records.specs.declared.place.StreamPlace.TheVariants.{Block, Descriptor, Record, Lost}
use Rattle.cob_limits.specs.Limits.{longest_block}

-- the place is within a descriptor, or before the end of a record, and no block holds more than the longest does
abbrev pub is_place : StreamPlace → Bool
is_place (Block head seen) = length head == 4 && nat_lt seen 4
is_place (Descriptor head seen room) = length head == 4 && (nat_lt seen 4 && nat_le room longest_block)
is_place (Record left room) = nat_lt 0 left && nat_le room longest_block
is_place Lost = true
