use Rattle.std.proofs.Common.{◌≡◌, ◌++◌, ℕ, List, length, refl, subst, Err}
use Rattle.std.proofs.lemmas.Result.{err_from_is_err_and}
use Rattle.cob_records.specs.Frame.{PutsPart, descriptor}
use Rattle.cob_records.proofs.AloneLaw.{puts_first, puts_second}
use Rattle.cob_records.proofs.alone.put_in_block.Goals as goal

pub returns-clause-taken : goal.returns-clause-taken
returns-clause-taken g c =
    let head : c.write_u16.new.buf ≡ descriptor (length c.args.body.now) = c.write_u16.ensures in
    let two = puts_second c.write_u16.new.buf c.args.body.now 4 8 c.put_all-2.result (g.W.Sink.taken c.args.sink.now)
    (g.W.Sink.taken c.put_all.new.sink) (g.W.Sink.taken c.put_all-2.new.sink) (rw head refl)
    c.in_ok-put_all.ensures.taken c.put_all-2.ensures.taken in
    rw head at two

pub returns-in_err-put_all-clause-taken : goal.returns-in_err-put_all-clause-taken
returns-in_err-put_all-clause-taken g c =
    let p = err_from_is_err_and c.from_residual.result c.from_residual.ensures.1 in
    let head : c.write_u16.new.buf ≡ descriptor (length c.args.body.now) = c.write_u16.ensures in
    let first = puts_first c.write_u16.new.buf c.args.body.now 4 c.in_err-put_all.field-0.0 (g.W.Sink.taken c.args.sink.now) (g.W.Sink.taken c.put_all.new.sink)
    c.in_err-put_all.ensures.taken in
    rw (p.1, p.2) (subst (λ (xs : List ℕ). PutsPart 4 (xs ++ c.args.body.now) (Err c.in_err-put_all.field-0.0) (g.W.Sink.taken c.args.sink.now) (g.W.Sink.taken c.put_all.new.sink)) head first)
