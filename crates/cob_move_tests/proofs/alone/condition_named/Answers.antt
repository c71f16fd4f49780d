use Rattle.std.proofs.Common.{refl}
use Rattle.cob_move_tests.proofs.alone.condition_named.Goals as goal

pub returns-in-Constant-clause-none : goal.returns-in-Constant-clause-none
returns-in-Constant-clause-none c = rw c.in-Constant.is refl

pub returns-in-Reference-clause-found : goal.returns-in-Reference-clause-found
returns-in-Reference-clause-found c = rw c.in-Reference.is c.values.ensures.found

pub returns-in-Reference-clause-none : goal.returns-in-Reference-clause-none
returns-in-Reference-clause-none c = rw c.in-Reference.is c.values.ensures.none

pub returns-in-Reference-clause-fault : goal.returns-in-Reference-clause-fault
returns-in-Reference-clause-fault c = rw c.in-Reference.is c.values.ensures.fault
