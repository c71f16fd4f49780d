use Rattle.std.proofs.Common.{inl, inr, refl}
use Rattle.cob_move_tests.proofs.alone.alone.Goals as goal

pub returns-in-Constant : goal.returns-in-Constant
returns-in-Constant c = rw c.in-Constant.is refl

pub returns-in-Ok : goal.returns-in-Ok
returns-in-Ok c = rw c.in-Reference.is (inr (refl, (_, _, c.in-Ok.ensures.found)))

pub returns-in-Err : goal.returns-in-Err
returns-in-Err c = rw c.in-Reference.is (inl c.in-Err.ensures.fault)
