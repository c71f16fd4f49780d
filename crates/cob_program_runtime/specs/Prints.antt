-- What is printed where there may be a limit.
use Rattle.std.specs.Prelude.{ℕ, ◌-◌, ◌^◌, ◌≤◌, min, ⊤, Option, None, Some}
use Rattle.cob_program_runtime.specs.declared.extent.Extent.{Extent}
use Rattle.cob_program_runtime.specs.Extents.{room_left}

-- so many bytes as they are counted: at most the greatest number of 64 bits
abbrev pub saturated : ℕ → ℕ
saturated bytes = min bytes (2 ^ 64 - 1)

-- there is room for so many bytes
abbrev pub FitsExtent : Option Extent → ℕ → Type 0
FitsExtent None bytes = ⊤
FitsExtent (Some extent) bytes = saturated bytes ≤ room_left extent
