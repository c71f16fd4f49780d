use Rattle.std.proofs.Common.{◌/◌, ◌%◌, ◌+◌, take, refl, arith}
use Rattle.cob_program_job.proofs.Digits.{grows, puts_text, says_more, taken_within}
use Rattle.cob_program_job.specs.Printed.{with_due}
use Rattle.cob_program_job.proofs.hex.HexSink.put_text.Goals as goal

pub invariant_of-self-2-clause-text : goal.invariant_of-self-2-clause-text
invariant_of-self-2-clause-text g c =
    (grows g.K.Opening.before (with_due (g.W.Sink.taken c.args.self.now.inner) c.args.self.now.due) (with_due (g.W.Sink.taken c.write.new.self) c.digit_due-self.result)
    (take (c.in_ok-went.went / 2 + c.in_ok-went.went % 2) c.args.bytes.now) c.args.self.now.text
    (puts_text c.args.bytes.now c.write_text.new.text c.min-size.result c.in_ok-went.went (c.in_ok-went.went / 2 + c.in_ok-went.went % 2) c.digit_due-self.result
    c.args.self.now.due (g.W.Sink.taken c.args.self.now.inner) (g.W.Sink.taken c.write.new.self) (omega arith) c.write_text.ensures c.in_ok-went.ensures.count refl
    c.digit_due-self.ensures.pair c.in_ok-went.ensures.bytes c.requires.due)).0

pub invariant_of-self-2-clause-said : goal.invariant_of-self-2-clause-said
invariant_of-self-2-clause-said g c =
    says_more c.args.self.now.begun (c.in_ok-went.went / 2 + c.in_ok-went.went % 2) g.K.Opening.before
    (with_due (g.W.Sink.taken c.args.self.now.inner) c.args.self.now.due) (with_due (g.W.Sink.taken c.write.new.self) c.digit_due-self.result)
    c.args.bytes.now c.args.self.now.said (taken_within c.args.bytes.now c.write_text.new.text c.min-size.result c.in_ok-went.went (omega arith) c.write_text.ensures c.in_ok-went.ensures.count) c.args.self.now.text
    (puts_text c.args.bytes.now c.write_text.new.text c.min-size.result c.in_ok-went.went (c.in_ok-went.went / 2 + c.in_ok-went.went % 2) c.digit_due-self.result
    c.args.self.now.due (g.W.Sink.taken c.args.self.now.inner) (g.W.Sink.taken c.write.new.self) (omega arith) c.write_text.ensures c.in_ok-went.ensures.count refl
    c.digit_due-self.ensures.pair c.in_ok-went.ensures.bytes c.requires.due)

pub returns-clause-text : goal.returns-clause-text
returns-clause-text g c =
    puts_text c.args.bytes.now c.write_text.new.text c.min-size.result c.in_ok-went.went (c.in_ok-went.went / 2 + c.in_ok-went.went % 2) c.digit_due-self.result
    c.args.self.now.due (g.W.Sink.taken c.args.self.now.inner) (g.W.Sink.taken c.write.new.self) (omega arith) c.write_text.ensures c.in_ok-went.ensures.count refl
    c.digit_due-self.ensures.pair c.in_ok-went.ensures.bytes c.requires.due
