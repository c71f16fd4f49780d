use Rattle.cob_copybook.specs.declared.role.Role.TheVariants.{In}
use Rattle.cob_convert.proofs.Refused.{memory_of, names_refused}
use Rattle.cob_convert.proofs.books.in_names.Goals as goal

pub returns-in-Err-clause-only : goal.returns-in-Err-clause-only
returns-in-Err-clause-only c = λ ns are. (tt, c.in_refusal.ensures.memory (memory_of c.in-Err.fault.rule ((rw c.in-Err.is at c.condition_names.ensures.only) ns are).1))

pub returns-in-Err-clause-refused : goal.returns-in-Err-clause-refused
returns-in-Err-clause-refused c = c.in_refusal.ensures.refused c.args.text.now (names_refused In c.in-Err.fault.rule c.in-Err.fault.line c.args.text.now (rw c.in-Err.is at c.condition_names.ensures.fault))
