use Rattle.cob_move_conditions.specs.declared.phrases.Quality.{Quality}
use Rattle.cob_move_tests.proofs.StepLemmas.{sign_testable}
use Rattle.std.proofs.Common.{refl, subst}
use Rattle.cob_move_tests.specs.Asked.{MayAskQuality}
use Rattle.cob_move_tests.proofs.conditions.quality_at.Goals as goal

pub returns-in-Class-clause-means : goal.returns-in-Class-clause-means
returns-in-Class-clause-means c = λ entry. rw c.in-Class.is refl

pub returns-in-Class-clause-testable : goal.returns-in-Class-clause-testable
returns-in-Class-clause-testable c = λ r asked may. may.0

pub returns-in-Sign-clause-means : goal.returns-in-Sign-clause-means
returns-in-Sign-clause-means c = λ entry. rw c.in-Sign.is refl

pub returns-in-Sign-clause-testable : goal.returns-in-Sign-clause-testable
returns-in-Sign-clause-testable c =
    λ r asked may. sign_testable r asked c.in-Sign.order c.args.number (subst (λ (q : Quality). MayAskQuality r asked q c.args.number) c.in-Sign.is may)
