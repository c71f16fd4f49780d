use Rattle.std.proofs.Common.{◌≡◌, ◌+◌, length, ap, ◌∙◌, sym}
use Rattle.cob_records.specs.Frame.{descriptor, framed}
use Rattle.cob_records.specs.declared.records.Form.TheVariants.{Variable}
use Rattle.cob_records.proofs.AloneLaw.{framed_size}
use Rattle.cob_records.proofs.Puts.{puts_two}
use Rattle.cob_records.proofs.alone.put_block_alone.Goals as goal

pub returns-clause-block : goal.returns-clause-block
returns-clause-block g c =
    let first : c.write_u16.new.buf ≡ descriptor (4 + length c.args.body.now) = c.write_u16.ensures in
    let head : c.write_u16.new.buf ≡ descriptor (length (framed Variable c.args.body.now)) = first ∙ ap descriptor (sym (framed_size c.args.body.now)) in
    let two = puts_two c.write_u16.new.buf (framed Variable c.args.body.now) 4 c.put_in_block.result (g.W.Sink.taken c.args.sink.now)
    (g.W.Sink.taken c.put_all.new.sink) (g.W.Sink.taken c.put_in_block.new.sink) (ap length head)
    c.in_ok-put_all.ensures.taken c.put_in_block.ensures.taken in
    rw head at two
