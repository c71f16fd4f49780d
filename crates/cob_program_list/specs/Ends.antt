-- Which faults the commands `layout`, `show` and `pieces` can have.
use Rattle.std.specs.Prelude.{◌≡◌, ◌⊎◌}
use Rattle.cob_program_faults.specs.declared.fault.FileName.TheVariants as name
use Rattle.cob_program_faults.specs.declared.fault.CommandFault.{CommandFault}
use Rattle.cob_program_faults.specs.declared.fault.CommandFault.TheVariants as fault
use Rattle.cob_program_faults.specs.Texts.{LacksFile, LacksLayout, LacksRecordLayout, StopsListing}

-- The faults that `layout` can have: of its copybook, or that a line could not be printed.
abbrev pub MayEndLayout : CommandFault → Type 0
MayEndLayout told = LacksLayout told ⊎ (told ≡ fault.Unprinted)

-- The faults that `show` and `pieces` can have: of their copybook, of the file with the records, or what stops a listing of them or of its pieces.
abbrev pub MayEndListing : CommandFault → Type 0
MayEndListing told = LacksRecordLayout told ⊎ LacksFile name.In told ⊎ StopsListing told
