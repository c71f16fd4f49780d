use Rattle.std.proofs.Common.{arith}
use Rattle.cob_copybook.proofs.book.Book.greatest.Goals as goal

pub returns-clause-some : goal.returns-clause-some
returns-clause-some c =
    let some = (c.records_take_bytes.ensures _ c.self.invariant.0).1 in
    omega (arith, c.self.invariant.1, some)
