use Rattle.std.proofs.Common.{refl}
use Rattle.cob_program_faults.specs.Ends.{AllDone, HasFault}
use Rattle.cob_program_faults.specs.declared.fault.CommandFault.TheVariants.{Memory}
use Rattle.cob_program_manual.proofs.command.tell_text.Goals as goal

pub returns-in-Ok : goal.returns-in-Ok
returns-in-Ok g c = AllDone c.printed.ensures.ends

pub returns-in-Err : goal.returns-in-Err
returns-in-Err g c = HasFault Memory refl c.tell_fault.ensures
