use Rattle.std.proofs.Common.{refl}
use Rattle.cob_move_tests.proofs.spans.compares.Goals as goal

pub returns-clause-means : goal.returns-clause-means
returns-clause-means c = λ entry. refl

pub returns-clause-testable : goal.returns-clause-testable
returns-clause-testable c = λ r asked may. (may.0, tt, may.1)
