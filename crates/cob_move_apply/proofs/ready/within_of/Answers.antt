use Rattle.cob_move_apply.proofs.ready.within_of.Goals as goal

pub returns-in-Out-clause-ready : goal.returns-in-Out-clause-ready
returns-in-Out-clause-ready c = rw (c.in-Entry.is, c.in-Out.is) c.within_entry.ensures.ready
