-- Which faults the ends of a conversion can have.
use Rattle.std.specs.Prelude.{◌⊎◌, ⊤}
use Rattle.cob_program_faults.specs.declared.fault.FileName.{FileName}
use Rattle.cob_program_faults.specs.declared.fault.FileName.TheVariants as name
use Rattle.cob_program_faults.specs.declared.fault.CommandFault.{CommandFault}
use Rattle.cob_program_faults.specs.declared.fault.CommandFault.TheVariants as fault
use Rattle.cob_program_faults.specs.Texts.{LacksFile}
use Rattle.cob_program_ends.specs.Stops.{LacksRecords}

-- the option names a file that a conversion reads
abbrev pub NamesInput : FileName → Type 0
NamesInput name.InBook = ⊤
NamesInput name.OutBook = ⊤
NamesInput name.Moves = ⊤
NamesInput name.In = ⊤
NamesInput other = ⊥

-- the output is a file that the conversion reads
abbrev pub LosesInput : CommandFault → Type 0
LosesInput (fault.OneFile option) = NamesInput option
LosesInput other = ⊥

-- An end of a conversion is not there: the records that are read are not, the output is not made, or it would lose a file that is read.
abbrev pub LacksEnds : CommandFault → Type 0
LacksEnds told = LacksRecords told ⊎ LacksFile name.Out told ⊎ LosesInput told
