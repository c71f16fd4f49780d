use Rattle.std.proofs.Common.{rules}
use Rattle.cob_program_job.proofs.Gathering.{gather, hex_of_gathered}
use Rattle.cob_program_job.proofs.job_data.decode.Goals as goal

pub loop-last-preserved : goal.loop-last-preserved
loop-last-preserved c =
    gather _ _ _ _ _ _ _ _ _ _ c.loop-last.invariant c.split_line.ensures.line (search rules) c.in_ok-add_digits.ensures c.saturating_add.ensures

pub bytes_of-requires-clause-digits : goal.bytes_of-requires-clause-digits
bytes_of-requires-clause-digits c = rw c.deref.ensures.value (hex_of_gathered _ _ _ _ _ _ c.loop-last.invariant)
