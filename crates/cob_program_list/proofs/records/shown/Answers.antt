use Rattle.cob_program_list.proofs.records.shown.Goals as goal

pub returns-in-Some-clause-shows : goal.returns-in-Some-clause-shows
returns-in-Some-clause-shows g c = λ text. (_, rw c.new-told.ensures.inner at c.listed_as-answer.ensures.shows text)
