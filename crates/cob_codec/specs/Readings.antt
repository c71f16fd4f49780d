-- What a reading of senders says.
use Rattle.std.specs.Prelude.{◌≡◌, Bool, true, false}
use Rattle.cob_codec.specs.declared.reading.Reading.{Reading}
use Rattle.cob_codec.specs.declared.reading.Reading.TheVariants.{Pictured, Whole, AnyZones, WholeAnyZones}

-- binary items are read as the numbers of all their bytes
abbrev pub reads_whole : Reading → Bool
reads_whole Pictured = false
reads_whole Whole = true
reads_whole AnyZones = false
reads_whole WholeAnyZones = true

-- zoned, separate and packed items are read by any zones
abbrev pub takes_any_zones : Reading → Bool
takes_any_zones Pictured = false
takes_any_zones Whole = false
takes_any_zones AnyZones = true
takes_any_zones WholeAnyZones = true

-- no item is read by any zones
abbrev pub KeepsZones : Reading → Type 0
KeepsZones reading = takes_any_zones reading ≡ false

-- the same reading, but by no other zones than strict ones
abbrev pub keeping_zones : Reading → Reading
keeping_zones Pictured = Pictured
keeping_zones Whole = Whole
keeping_zones AnyZones = Pictured
keeping_zones WholeAnyZones = Whole

-- the reading by whether binary items are read whole, and others by any zones
abbrev pub reading_of : (whole any_zones : Bool) → Reading
reading_of false false = Pictured
reading_of true false = Whole
reading_of false true = AnyZones
reading_of true true = WholeAnyZones
