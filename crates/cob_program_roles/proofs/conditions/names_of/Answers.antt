use Rattle.std.proofs.Common.{◌∙◌, sym, subst, true≢false}
use Rattle.cob_copybook.specs.Books.{IsMemory}
use Rattle.cob_program_roles.proofs.conditions.names_of.Goals as goal

pub returns-in-Ok-clause-one : goal.returns-in-Ok-clause-one
returns-in-Ok-clause-one c = λ ns is. (c.in-Ok.ensures.only ns is).0

pub returns-else-is_memory-clause-none : goal.returns-else-is_memory-clause-none
returns-else-is_memory-clause-none c = λ ns is. true≢false (sym (c.is_memory.ensures.1 (subst IsMemory (sym (c.in-Err.ensures.only ns is).1) tt)) ∙ c.if-is_memory.false)
