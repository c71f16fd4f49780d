use Rattle.cob_move_apply.proofs.ready.located_constant_of.Goals as goal

pub returns-in-Constant : goal.returns-in-Constant
returns-in-Constant c = record { ready = rw c.in-Constant.is c.located_constant.ensures.ready }
