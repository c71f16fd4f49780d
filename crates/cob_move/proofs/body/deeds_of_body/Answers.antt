use Rattle.std.proofs.Common.{inl}
use Rattle.std.proofs.lemmas.Result.{err_from_is_err_and}
use Rattle.cob_move.proofs.LoopLemmas.{not_true}
use Rattle.cob_move.proofs.body.deeds_of_body.Goals as goal

pub returns-in_err-literal-clause-fault : goal.returns-in_err-literal-clause-fault
returns-in_err-literal-clause-fault c =
    let p = err_from_is_err_and c.from_residual.result c.from_residual.ensures.1 in
    rw (p.1, p.2) (inl c.in_err-literal.ensures.fault)

pub literal_deeds-requires-clause-literal : goal.literal_deeds-requires-clause-literal
literal_deeds-requires-clause-literal c = λ p is. (c.in_ok-literal.ensures.literal p is).0 c.if-literal.true

pub tested_deeds-requires-clause-item : goal.tested_deeds-requires-clause-item
tested_deeds-requires-clause-item c = λ p is all. not_true c.in_ok-literal.literal c.if-literal.false ((c.in_ok-literal.ensures.literal p is).1 all)
