-- Which of the files that a conversion reads its output would lose.
use Rattle.std.specs.Prelude.{None, Option}
use Rattle.cob_program_faults.specs.declared.identity.FileIdentity.{FileIdentity}
use Rattle.cob_program_faults.specs.Identity.{Loses}
use Rattle.cob_program_faults.specs.declared.fault.FileName.{FileName}
use Rattle.cob_program_faults.specs.declared.fault.FileName.TheVariants as name
use Rattle.cob_program_ends.specs.declared.inputs.Inputs.{Inputs}

-- the file that an option of a conversion names for reading
abbrev pub input_named : Inputs → FileName → Option FileIdentity
input_named inputs name.InBook = inputs.in_book
input_named inputs name.OutBook = inputs.out_book
input_named inputs name.Moves = inputs.moves
input_named inputs name.In = inputs.records
input_named inputs other = None

-- An output loses none of the files that a conversion reads.
abbrev pub LosesNone : Option FileIdentity → Inputs → Type 0
LosesNone output inputs = (Loses output inputs.in_book → ⊥) × (Loses output inputs.out_book → ⊥)
    × (Loses output inputs.moves → ⊥) × (Loses output inputs.records → ⊥)
