use Rattle.std.proofs.Common.{inl}
use Rattle.cob_program_faults.specs.Ends.{HasFault}
use Rattle.cob_program_explain.proofs.EndLemmas.{ends_told}
use Rattle.cob_program_explain.proofs.command.do_explain.Goals as goal

pub returns-in-Ok : goal.returns-in-Ok
returns-in-Ok g c = ends_told c.in-Ok.told c.tell_explanation.result c.in-Ok.ensures.told c.tell_explanation.ensures

pub returns-in-Err : goal.returns-in-Err
returns-in-Err g c = inl (HasFault c.in-Err.fault c.in-Err.ensures.may c.tell_fault.ensures)
