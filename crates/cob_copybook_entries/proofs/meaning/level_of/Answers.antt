use Rattle.std.proofs.Common.{arith}
use Rattle.cob_copybook_entries.proofs.Numbers.{two_digits}
use Rattle.cob_copybook_entries.proofs.meaning.level_of.Goals as goal

pub overflow_cast-result : goal.overflow_cast-result
overflow_cast-result c = omega (arith, two_digits _ _ c.in-Some.ensures.found)
