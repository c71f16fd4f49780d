use Rattle.std.proofs.Common.{inl, inr}
use Rattle.cob_program_commands.proofs.commands.perform_handed.Goals as goal

pub returns-in-Ok : goal.returns-in-Ok
returns-in-Ok g c = inl c.perform_with_books.ensures

pub returns-in-Err : goal.returns-in-Err
returns-in-Err g c = inr (c.in-Err.ensures.books, c.in-Err.fault, _, c.in-Err.ensures.lacks, c.tell_unhanded.ensures, c.code.ensures)
