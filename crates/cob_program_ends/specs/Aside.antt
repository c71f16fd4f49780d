-- Which faults the ends of a conversion can have that sets rejected records aside.
use Rattle.std.specs.Prelude.{◌≡◌, ◌⊎◌}
use Rattle.cob_program_faults.specs.declared.fault.FileName.{FileName}
use Rattle.cob_program_faults.specs.declared.fault.FileName.TheVariants as name
use Rattle.cob_program_faults.specs.declared.fault.CommandFault.{CommandFault}
use Rattle.cob_program_faults.specs.declared.fault.CommandFault.TheVariants as fault
use Rattle.cob_program_faults.specs.Texts.{LacksFile}
use Rattle.cob_program_ends.specs.Ends.{LacksEnds, NamesInput}

-- the option names a file that a conversion reads, or its output
abbrev pub NamesOther : FileName → Type 0
NamesOther option = NamesInput option ⊎ (option ≡ name.Out)

-- the file for rejected records is one that the conversion reads, or its output
abbrev pub LosesOther : CommandFault → Type 0
LosesOther (fault.OneFileAside option) = NamesOther option
LosesOther other = ⊥

-- The file for rejected records is not there: it is not made, or it would be one with another file of the conversion.
abbrev pub LacksAside : CommandFault → Type 0
LacksAside told = LosesOther told ⊎ LacksFile name.Rejects told

-- an end of the conversion is not there
abbrev pub LacksAsideEnds : CommandFault → Type 0
LacksAsideEnds told = LacksEnds told ⊎ LacksAside told
