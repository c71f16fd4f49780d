use Rattle.std.proofs.Common.{inl}
use Rattle.cob_test_moves.proofs.reads.push_applied.Goals as goal

-- the input is all of a record's storage, and no part of it
pub apply-answer-requires-clause-input : goal.apply-answer-requires-clause-input
apply-answer-requires-clause-input c = inl c.requires.input
