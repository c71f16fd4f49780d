use Rattle.std.proofs.Common.{inl, inr, refl}
use Rattle.std.proofs.lemmas.Result.{err_from_is_err_and}
use Rattle.cob_move_tests.proofs.compared.constant_compared.Goals as goal

pub returns-then-not-is_not_empty-clause-fault : goal.returns-then-not-is_not_empty-clause-fault
returns-then-not-is_not_empty-clause-fault c = inr (refl, c.is_not_empty.ensures.no c.if-not-is_not_empty.true)

pub returns-in_err-value-clause-fault : goal.returns-in_err-value-clause-fault
returns-in_err-value-clause-fault c =
    let p = err_from_is_err_and c.from_residual.result c.from_residual.ensures.1 in
    rw (p.1, p.2) (inl c.in_err-value.ensures.fault)
