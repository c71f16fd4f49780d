-- Which faults the commands can have that print what is made from the definition of the command.
use Rattle.std.specs.Prelude.{◌≡◌}
use Rattle.cob_program_faults.specs.declared.fault.CommandFault.{CommandFault}
use Rattle.cob_program_faults.specs.declared.fault.CommandFault.TheVariants as fault

-- Memory was refused.
abbrev pub MayEndPrinting : CommandFault → Type 0
MayEndPrinting told = told ≡ fault.Memory
