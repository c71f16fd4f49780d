-- The end that tells why records were rejected.
use Rattle.std.specs.Prelude.{ℕ, Bool}
use Rattle.cob_program_run.specs.declared.rejections.Rejections.{Rejections}

-- the number of the first record that is read, from which those of the fault lines are counted
abbrev pub first_told : {T W : Type 0} → Rejections T W → ℕ
first_told notes = notes.first

-- whether it writes over the line that tells how far a run is
abbrev pub is_clearing : {T W : Type 0} → Rejections T W → Bool
is_clearing notes = notes.is_cleared
