use Rattle.std.proofs.Common.{IfSome, subst, arith}
use Rattle.cob_move_steps.specs.Long.{IsLongReaderFor, IsLongReceiverFor, SendsAnyLong}
use Rattle.cob_move_steps.proofs.LongKinds.{keeper_as}
use Rattle.cob_move_steps.proofs.long_step.LongStep.to_number.Goals as goal

pub returns-clause-step : goal.returns-clause-step
returns-clause-step c =
    let from = c.args.sender.now in
    let front = c.front_wanted.result in
    let last = c.last_wanted.result in
    record {
      sends = subst (λ o. IfSome o (λ r. SendsAnyLong from)) c.in-Some-2.is c.in_ok-reader.ensures.sends;
      room = omega (arith, front.most, c.front_wanted.ensures.digits);
      reader = subst (λ o. IfSome o (IsLongReaderFor from)) c.in-Some-2.is c.in_ok-reader.ensures.reader;
      front = keeper_as front.digits _ front.shift _ c.of-front.result c.front_wanted.ensures.digits c.front_wanted.ensures.shift c.of-front.ensures;
      back = keeper_as last.digits _ last.shift _ c.of-back.result c.last_wanted.ensures.digits c.last_wanted.ensures.shift c.of-back.ensures;
      writer = subst (λ o. IfSome o (IsLongReceiverFor c.args.receiver.now)) c.in-Some.is c.in_ok-writer.ensures.writer;
    }
