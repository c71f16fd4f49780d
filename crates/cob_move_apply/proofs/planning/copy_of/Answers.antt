use Rattle.cob_move_apply.proofs.planning.copy_of.Goals as goal

pub returns-in-In-clause-copied : goal.returns-in-In-clause-copied
returns-in-In-clause-copied c = rw (c.in-Entry.is, c.in-In.is) c.plain_copy.ensures.copied

pub returns-in-In-clause-value : goal.returns-in-In-clause-value
returns-in-In-clause-value c = rw (c.in-Entry.is, c.in-In.is) c.plain_copy.ensures.value
