use Rattle.cob_move_apply.proofs.ready.located_of.Goals as goal

pub returns-in_ok-one-in-In-clause-step : goal.returns-in_ok-one-in-In-clause-step
returns-in_ok-one-in-In-clause-step c = rw (c.in-Entry.is, c.in-In.is) c.in_ok-one-in-In.ensures.step
