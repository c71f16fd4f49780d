-- How far the places reach that begin at a byte.
use Rattle.std.specs.Prelude.{◌≡◌, ◌<◌, ◌==◌, ◌&&◌, ℕ, Bool, List, nat_lt, get_or, length}
use Rattle.std.specs.List.{list_any}
use Rattle.cob_layout.specs.declared.fields.Place.{Place}

-- a place begins at this byte and has more bytes than so many
abbrev pub begins_longer : ℕ → ℕ → Place → Bool
begins_longer o n p = (p.offset == o) && nat_lt n p.length

-- each of these is as long as the longest of the places that begin at its byte
abbrev pub AreReaches : List Place → List ℕ → Type 0
AreReaches ps reaches = (o n : ℕ) → o < length reaches → nat_lt n (get_or reaches o 0) ≡ list_any (begins_longer o n) ps
