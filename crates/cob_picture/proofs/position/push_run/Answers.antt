use Rattle.std.proofs.Common.{sym, ◌∙◌, arith}
use Rattle.cob_picture.proofs.Placed.{push_step, push_end}
use Rattle.cob_picture.proofs.position.push_run.Goals as goal

pub loop-place-preserved : goal.loop-place-preserved
loop-place-preserved c = record {
  items = rw (c.push.ensures.items, c.position_at.ensures, c.is_seen_by-seen.ensures) (push_step c.loop-place.positions.items c.args.category c.args.floating c.loop-place.seen c.args.run.symbol c.args.run.count c.loop-place.place c.loop-place-test.true ∙ c.loop-place.invariant.items);
  room = omega (arith, c.push.ensures.len, c.loop-place.invariant.room);
}

pub returns : goal.returns
returns c = sym (push_end c.loop-place.positions.items c.args.category c.args.floating c.loop-place.seen c.args.run.symbol c.args.run.count c.loop-place.place (omega arith)) ∙ c.loop-place.invariant.items
