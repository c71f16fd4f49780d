use Rattle.std.proofs.Common.{◌∙◌, ◌+◌, arith}
use Rattle.cob_back_losses.proofs.EndLemmas.{front_further}
use Rattle.cob_back_losses.proofs.later.covered_front.Goals as goal

pub loop-at-preserved : goal.loop-at-preserved
loop-at-preserved c = record {
  low = omega (arith, c.loop-at.invariant.low);
  high = omega arith;
  front = λ marks before. front_further marks c.args.place.offset c.loop-at.at _ c.known_end.result (omega arith) (c.loop-at.invariant.front marks before) (c.known_end.ensures.covered marks (c.loop-at.invariant.ends marks before));
  ends = λ marks before. c.known_end.ensures.ends marks (c.loop-at.invariant.ends marks before);
  room = c.known_end.ensures.room ∙ c.loop-at.invariant.room;
}

pub returns-clause-front : goal.returns-clause-front
returns-clause-front c = λ marks before at lt. c.loop-at.invariant.front marks before (c.args.place.offset + at) (omega arith) (omega (arith, lt))
