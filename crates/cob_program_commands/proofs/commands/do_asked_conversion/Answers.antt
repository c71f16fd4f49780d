use Rattle.cob_program_commands.proofs.commands.do_asked_conversion.Goals as goal

pub returns-in-None : goal.returns-in-None
returns-in-None g c = rw c.in-None.is c.do_plain_conversion.ensures

pub returns-in-Some : goal.returns-in-Some
returns-in-Some g c = rw c.in-Some.is c.do_convert_reported.ensures
