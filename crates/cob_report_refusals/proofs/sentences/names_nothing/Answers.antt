use Rattle.cob_report_refusals.proofs.sentences.names_nothing.Goals as goal

pub returns-in-None : goal.returns-in-None
returns-in-None c = λ yes_it_is name h. rw c.in-None.is at (c.read_condition_name.ensures.only name h)
