use Rattle.cob_convert.proofs.books.out_book.Goals as goal

pub returns-in-Err-clause-only : goal.returns-in-Err-clause-only
returns-in-Err-clause-only c = λ t is. (tt, c.out_refusal.ensures.memory ((rw c.in-Err.is at c.read.ensures.only) t is).1)
