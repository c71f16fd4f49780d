use Rattle.std.proofs.Common.{inl, inr}
use Rattle.cob_move_apply.proofs.planning.may_be_cut.Goals as goal

pub returns-in-In-clause-yes : goal.returns-in-In-clause-yes
returns-in-In-clause-yes c = λ x yes. rw (c.in-Entry.is, c.in-In.is) (inl tt)

pub returns-in-Out-clause-yes : goal.returns-in-Out-clause-yes
returns-in-Out-clause-yes c = λ x yes. rw (c.in-Entry.is, c.in-Out.is) (inr (c.may_cut_entry.ensures yes))

pub returns-in-Out-clause-only : goal.returns-in-Out-clause-only
returns-in-Out-clause-only c = λ x r no same. rw (c.in-Entry.is, c.in-Out.is) at same

pub returns-in-Constant-clause-yes : goal.returns-in-Constant-clause-yes
returns-in-Constant-clause-yes c = λ x yes. rw c.in-Constant.is (inl tt)
