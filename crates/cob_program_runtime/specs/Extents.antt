-- How far a file may be written.
use Rattle.std.specs.Prelude.{◌≡◌, ℕ, pos, ◌+◌, ◌-◌, ◌^◌, min, List, take, Some}
use Rattle.std.specs.IoError.{error_kind, raw_os_error}
use Rattle.std.specs.declared.io.Error.{Error}
use Rattle.std.specs.declared.io.ErrorKind.TheVariants.{FileTooLarge}
use Rattle.cob_program_runtime.specs.declared.extent.Extent.{Extent}

-- how many bytes a file takes before it has as many as it may have
abbrev pub room_left : Extent → ℕ
room_left extent = extent.limit - extent.position

-- there is room for no byte
abbrev pub AtLimit : Extent → Type 0
AtLimit extent = room_left extent ≡ 0

-- as many of these bytes as there is room for
abbrev pub front_that_fits : Extent → List ℕ → List ℕ
front_that_fits extent bytes = take (room_left extent) bytes

-- the extent behind so many bytes more; a position is at most the greatest of 64 bits
abbrev pub advanced_by : ℕ → Extent → Extent
advanced_by bytes extent = record { limit = extent.limit; position = min (extent.position + bytes) (2 ^ 64 - 1) }

-- the error that the system has for a write behind the limit: it has the number 27 there
abbrev pub IsTooLarge : Error → Type 0
IsTooLarge error = (error_kind error ≡ FileTooLarge) × (raw_os_error error ≡ Some (pos 27))
