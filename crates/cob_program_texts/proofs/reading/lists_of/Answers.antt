use Rattle.cob_program_texts.proofs.reading.lists_of.Goals as goal

pub lines_of_deeds-requires : goal.lines_of_deeds-requires
lines_of_deeds-requires c = record { prepared = (c.conversion.result.now.records, c.deeds.ensures.prepared) }
