-- How the command ends by what it came to.
use Rattle.std.proofs.Common.{Result, Ok, Err, IfErr, inl, inr}
use Rattle.cob_convert.specs.declared.status.Status.{Status}
use Rattle.cob_program_faults.specs.Ends.{AllDone, EndsAs, EndsAtRecord, HasFault}
use Rattle.cob_program_map.specs.declared.ends.Unmapped.{Unmapped}
use Rattle.cob_program_map.specs.declared.ends.Unmapped.TheVariants.{Fault, NoRecord}
use Rattle.cob_program_map.specs.Ends.{MayNotMap, status_of_map}

-- a command that came to this ends so
pub ends_map : (outcome : Result (Unit {0}) Unmapped) (end : Status) → IfErr outcome MayNotMap → EndsAs (status_of_map outcome) end → EndsAtRecord end
ends_map (Ok mapped) end fine ends = inl (AllDone ends)
ends_map (Err (Fault told)) end fine ends = inl (HasFault told fine ends)
ends_map (Err (NoRecord number there)) end fine ends = inr ends
