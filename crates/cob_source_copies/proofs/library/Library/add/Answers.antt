use Rattle.std.proofs.lemmas.Result.{err_from_is_err_and}
use Rattle.cob_source_copies.proofs.library.Library.add.Goals as goal

pub returns-in_err-done-clause-only : goal.returns-in_err-done-clause-only
returns-in_err-done-clause-only c = λ done x.
    let p = err_from_is_err_and c.from_residual.result c.from_residual.ensures.1 in
    rw (p.1, p.2) (c.in_err-done.ensures.only done x).1
