use Rattle.cob_program_commands.proofs.commands.perform_with_books.Goals as goal

pub returns : goal.returns
returns g c = c.with_handed_books.ensures.ends _ c.perform_line-code.ensures
