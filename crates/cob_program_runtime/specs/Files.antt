-- Files that have an extent, or none.
use Rattle.std.specs.Prelude.{◌≡◌, ℕ, ◌<◌, Bool, if◌then◌else◌, List, length, Option, None, Some, Result, Ok, Err}
use Rattle.std.specs.Fs.{IsFile, file_type, metadata_len}
use Rattle.std.specs.declared.fs.Metadata.{Metadata}
use Rattle.std.specs.declared.io.Error.{Error}
use Rattle.cob_program_runtime.specs.declared.extent.Extent.{Extent}
use Rattle.cob_program_runtime.specs.Extents.{AtLimit, IsTooLarge, front_that_fits, advanced_by}

-- how many bytes stand before the next one that is written to a file, of which the system says this: all that it has, or none
abbrev pub first_position : Metadata → Bool → ℕ
first_position metadata at_end = if at_end then metadata_len metadata else 0

-- This is the extent of a file under a limit, of which the system says this. Only a regular file has one: it is written from its end on, or from its front.
pub record IsExtentOf (limit : ℕ) (at_end : Bool) (metadata : Metadata) (extent : Extent) : Type 0 where
  pub regular : IsFile (file_type metadata)
  pub limit_same : extent.limit ≡ limit
  pub from : extent.position ≡ first_position metadata at_end

-- a file that has a limit, and has room for no byte
abbrev pub IsAtItsLimit : Option Extent → Type 0
IsAtItsLimit None = ⊥
IsAtItsLimit (Some extent) = AtLimit extent

-- as many of these bytes as there is room for: all where there is no limit
abbrev pub front_within : Option Extent → List ℕ → List ℕ
front_within None bytes = bytes
front_within (Some extent) bytes = front_that_fits extent bytes

-- the extent behind so many bytes more, where there is one
abbrev pub extent_behind : ℕ → Option Extent → Option Extent
extent_behind bytes None = None
extent_behind bytes (Some extent) = Some (advanced_by bytes extent)

-- the extent behind what a call wrote or read: it is the same where the call failed
abbrev pub extent_after : {E : Type 0} → Result ℕ E → Option Extent → Option Extent
extent_after (Ok bytes) extent = extent_behind bytes extent
extent_after (Err error) extent = extent

-- the extent of a file that was moved: it is the same where it was not
abbrev pub extent_at : {E : Type 0} → Result ℕ E → Option Extent → Option Extent
extent_at (Ok position) (Some extent) = Some (record { limit = extent.limit; position = position })
extent_at moved extent = extent

-- these bytes are as many as there is room for, and where there is room for none, there were none
abbrev pub IsFrontWithin : Option Extent → (bytes front : List ℕ) → Type 0
IsFrontWithin extent bytes front = (front ≡ front_within extent bytes) × (IsAtItsLimit extent → length bytes ≡ 0)

-- there are bytes, there is room for none, and this is the error
abbrev pub HasNoRoom : Option Extent → List ℕ → Error → Type 0
HasNoRoom extent bytes error = IsTooLarge error × IsAtItsLimit extent × (0 < length bytes)
