use Rattle.std.proofs.Common.{arith, refl}
use Rattle.cob_back_losses.proofs.EndLemmas.{front_marked}
use Rattle.cob_back_losses.proofs.later.cover.Goals as goal

pub loop-at-init : goal.loop-at-init
loop-at-init c = record {
  marked = front_marked c.args.marks.now c.args.place.offset c.args.front _ (omega arith) c.requires.front;
  room = refl;
}
