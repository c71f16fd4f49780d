use Rattle.std.proofs.Common.{◌≡◌, ◌+◌, ◌-◌, ◌++◌, length, replicate}
use Rattle.cob_picture.specs.Positions.{positions_from}
use Rattle.cob_picture.proofs.position.push_run.Given as goal

abbrev pub invariant-loop-place : goal.invariant-loop-place
invariant-loop-place l = record {
  items : l.positions.items ++ positions_from l.category l.floating l.seen (replicate (l.run.count - l.place) l.run.symbol) ≡ l.fn.positions.items ++ positions_from l.category l.floating l.fn.seen (replicate l.run.count l.run.symbol);
  room : length l.positions.items ≡ length l.fn.positions.items + l.place;
}
