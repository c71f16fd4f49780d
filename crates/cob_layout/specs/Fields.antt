-- The bytes of a place, read and lent to be written.
use Rattle.std.specs.Prelude.{ℕ, List, ◌++◌, take, drop}
use Rattle.std.specs.Borrow.{Lends, MutBor, Fml, Array, u8}
use Rattle.cob_layout_places.specs.Counts.{bytes_at}
use Rattle.cob_layout.specs.declared.fields.Place.{Place}

-- the bytes of a place
abbrev pub field_of : Place → List ℕ → List ℕ
field_of place bytes = bytes_at place.offset place.length bytes

-- a storage in which the bytes of a place are replaced
abbrev pub with_field : List ℕ → Place → List ℕ → List ℕ
with_field bytes place field = take place.offset bytes ++ (field ++ drop place.length (drop place.offset bytes))

-- the storage ends with the bytes of the place made what the result last held, and all others as they were
abbrev pub LendsField : MutBor (List ℕ) → Place → MutBor (List ℕ) → Fml
LendsField bytes place result = Lends (Array u8 0) (Array u8 0) bytes result (with_field bytes.now place)
