use Rattle.cob_program_texts.proofs.answer.converter_back.Goals as goal

pub returns-in-Err-clause-refused : goal.returns-in-Err-clause-refused
returns-in-Err-clause-refused c = record { refused = c.in-Err.fault; breaks = c.in-Err.ensures.refused; told_so = c.refused_back.ensures }
