use Rattle.std.proofs.Common.{◌∙◌, sym, true≢false}
use Rattle.cob_program_roles.proofs.reading.book_of.Goals as goal

pub returns-in-Ok-clause-one : goal.returns-in-Ok-clause-one
returns-in-Ok-clause-one c = λ t is. (c.in-Ok.ensures.only t is).0

pub returns-else-is_memory-clause-none : goal.returns-else-is_memory-clause-none
returns-else-is_memory-clause-none c = λ t is. true≢false (sym (c.is_memory.ensures.1 (c.in-Err.ensures.only t is).1) ∙ c.if-is_memory.false)
