use Rattle.cob_move_apply.proofs.ready.constant_of.Goals as goal

pub returns-in-Constant : goal.returns-in-Constant
returns-in-Constant c = record { ready = rw c.in-Constant.is c.ready_constant.ensures.ready }
