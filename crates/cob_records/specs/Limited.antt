-- An end round another that passes bytes up to a limit, as its callers see it.
use Rattle.std.specs.Prelude.{ℕ, ◌+◌, ◌%◌}
use Rattle.cob_records.specs.declared.limited.Limited.{Limited}
use Rattle.cob_records.specs.Device.{count_modulus}

-- the end inside
abbrev pub limited_inner : {E : Type 0} → Limited E → E
limited_inner end = end.inner

-- how many bytes a call moves at most
abbrev pub limited_piece : {E : Type 0} → Limited E → ℕ
limited_piece end = end.piece

-- how many bytes may still pass
abbrev pub limited_left : {E : Type 0} → Limited E → ℕ
limited_left end = end.left

-- how many calls failed because no more bytes may pass
abbrev pub limited_failures : {E : Type 0} → Limited E → ℕ
limited_failures end = end.failures

-- all failures of such an end: its own, and those that this count gives of the end inside
abbrev pub limited_all : {E : Type 0} → (E → ℕ) → Limited E → ℕ
limited_all failures_of end = (failures_of (limited_inner end) + limited_failures end) % count_modulus
