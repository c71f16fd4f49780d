-- A part of a file of records of one length, of which the first ones are passed over.
use Rattle.std.specs.Prelude.{◌≡◌, ℕ, ◌+◌, ◌-◌, ◌*◌, ◌<◌, List, length, take, drop, None, Some, Option}
use Rattle.cob_records_parts.specs.Choices.{AreInFront}
use Rattle.cob_records_parts.specs.declared.part.StreamPart.{StreamPart}

-- as many of these bytes as are asked for
abbrev pub at_most : Option ℕ → List ℕ → List ℕ
at_most None bytes = bytes
at_most (Some count) bytes = take count bytes

-- the bytes of a file behind so many, as many as are asked for
abbrev pub piece_of : ℕ → Option ℕ → List ℕ → List ℕ
piece_of from count file = at_most count (drop from file)

-- what is left of so many, where they are bounded, behind the first ones
abbrev pub less_by : ℕ → Option ℕ → Option ℕ
less_by count None = None
less_by count (Some bytes) = Some (bytes - count)

-- A part is what is behind the first whole records of another part of a file, as many of them as are passed over there; where they are fewer, less than
-- one is left.
pub record IsBehindWhole (greatest : ℕ) (before now : StreamPart) (file : List ℕ) : Type 0 where
  pub records : ℕ
  pub front : AreInFront greatest records (records * greatest) (piece_of before.from before.bytes file)
  pub behind : piece_of now.from now.bytes file ≡ drop (records * greatest) (piece_of before.from before.bytes file)
  pub skips : now.skip + records ≡ before.skip
  pub most : 0 < now.skip → length (piece_of now.from now.bytes file) < greatest
