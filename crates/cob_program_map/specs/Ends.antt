-- Why the command `map` has no page, and how it ends.
use Rattle.std.specs.Prelude.{Result, Ok, Err, ⊤}
use Rattle.cob_convert.specs.declared.status.Status.{Status}
use Rattle.cob_convert.specs.declared.status.Status.TheVariants as status
use Rattle.cob_program_faults.specs.Faults.{status_of}
use Rattle.cob_program_faults.specs.Texts.{StopsAtRecord}
use Rattle.cob_program_map.specs.declared.ends.Unmapped.{Unmapped}
use Rattle.cob_program_map.specs.declared.ends.Unmapped.TheVariants.{Fault, NoRecord}

-- why there is no page: a fault that the command can have, or no record with the number
abbrev pub MayNotMap : Unmapped → Type 0
MayNotMap (Fault told) = StopsAtRecord told
MayNotMap (NoRecord number there) = ⊤

-- the status of what the command came to: where there is no record with the number, the command line is malformed
abbrev pub status_of_map : Result (Unit {0}) Unmapped → Status
status_of_map (Ok mapped) = status.Done
status_of_map (Err (Fault told)) = status_of told
status_of_map (Err (NoRecord number there)) = status.Malformed
