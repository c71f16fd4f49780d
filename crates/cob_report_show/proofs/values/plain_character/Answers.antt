use Rattle.cob_report_show.proofs.values.plain_character.Goals as goal

pub returns-clause-only : goal.returns-clause-only
returns-clause-only c = λ character coded plain. c.decode_byte.ensures.only character coded
