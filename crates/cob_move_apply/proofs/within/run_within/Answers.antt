use Rattle.cob_move_apply.proofs.within.run_within.Goals as goal

pub returns-in-Ok-clause-applied : goal.returns-in-Ok-clause-applied
returns-in-Ok-clause-applied c = λ yes own is. c.in-Ok.ensures.applied own is

pub returns-in-Ok-clause-spends : goal.returns-in-Ok-clause-spends
returns-in-Ok-clause-spends c = λ yes own is. c.in-Ok.ensures.spends own is
