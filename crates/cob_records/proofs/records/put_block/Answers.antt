use Rattle.std.proofs.Common.{◌≡◌, ◌<◌, length, ap, rules}
use Rattle.cob_records.specs.Frame.{descriptor}
use Rattle.cob_records.proofs.Puts.{puts_two}
use Rattle.cob_records.proofs.Greedy.{closed_some}
use Rattle.cob_records.proofs.records.put_block.Goals as goal

pub returns-clause-block : goal.returns-clause-block
returns-clause-block g c =
    let head : c.write_u16.new.buf ≡ descriptor (length c.args.frames.now) = c.write_u16.ensures in
    let some : 0 < length c.args.frames.now = search rules in
    let two = puts_two c.write_u16.new.buf c.args.frames.now 4 c.put_all-2.result (g.W.Sink.taken c.args.sink.now)
    (g.W.Sink.taken c.put_all.new.sink) (g.W.Sink.taken c.put_all-2.new.sink) (ap length head)
    c.in_ok-put_all.ensures.taken c.put_all-2.ensures.taken in
    rw (closed_some c.args.frames.now some) (rw head at two)
