use Rattle.std.proofs.Common.{◌≡◌, length, take}
use Rattle.cob_report_cover.specs.Reaches.{AreReaches}
use Rattle.cob_report_cover.proofs.sweep.reaches_of.Given as goal

abbrev pub invariant-loop-place : goal.invariant-loop-place
invariant-loop-place l = record {
  long : length l.reaches.items ≡ l.count;
  reaches : AreReaches (take l.place-index l.places) l.reaches.items;
}
