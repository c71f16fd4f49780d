use Rattle.cob_program_job.proofs.FirstPlaces.{one_piece, last_piece}
use Rattle.cob_program_job.proofs.job_data.add_digits.Goals as goal

pub loop-at-preserved : goal.loop-at-preserved
loop-at-preserved c =
    one_piece _ _ _ c.loop-at.rest.now c.in-Some.at (rw c.in-Some.is at c.memchr.ensures) c.in_ok-extend_from_slice.ensures.items c.loop-at.invariant

pub returns : goal.returns
returns c =
    last_piece c.extend_from_slice-2.result _ _ _ c.loop-at.rest.now (rw c.in_default.is at c.memchr.ensures) c.extend_from_slice-2.ensures.items c.loop-at.invariant
