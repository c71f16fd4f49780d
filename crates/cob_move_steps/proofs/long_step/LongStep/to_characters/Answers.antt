use Rattle.cob_move_steps.proofs.LongKinds.{keeper_as}
use Rattle.cob_move_steps.proofs.long_step.LongStep.to_characters.Goals as goal

pub returns-clause-step : goal.returns-clause-step
returns-clause-step c =
    let front = c.front_wanted.result in
    let last = c.last_wanted.result in
    record {
      reader = c.in_ok-reader.ensures.reader;
      front = keeper_as front.digits _ front.shift _ c.of.result c.front_wanted.ensures.digits c.front_wanted.ensures.shift c.of.ensures;
      back = keeper_as last.digits _ last.shift _ c.of-2.result c.last_wanted.ensures.digits c.last_wanted.ensures.shift c.of-2.ensures;
      writer = c.in_ok-writer.ensures.writer;
    }
