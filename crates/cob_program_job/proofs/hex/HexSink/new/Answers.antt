use Rattle.cob_program_job.proofs.Digits.{starts, says_none}
use Rattle.cob_program_job.proofs.hex.HexSink.new.Goals as goal

pub invariant_of-result-clause-text : goal.invariant_of-result-clause-text
invariant_of-result-clause-text g c = rw c.requires (starts g.K.Opening.before)

pub invariant_of-result-clause-said : goal.invariant_of-result-clause-said
invariant_of-result-clause-said g c = rw c.requires (says_none g.K.Opening.before)
