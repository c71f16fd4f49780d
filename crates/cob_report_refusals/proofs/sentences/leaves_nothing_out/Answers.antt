use Rattle.cob_report_refusals.proofs.sentences.leaves_nothing_out.Goals as goal

pub returns-in-None : goal.returns-in-None
returns-in-None c = λ yes_it_is. rw c.in-None.is at c.left_out.ensures.none
