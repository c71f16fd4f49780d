use Rattle.std.proofs.Common.{◌≡◌, ◌≤◌, ◌<◌, ◌*◌, length}
use Rattle.cob_records.specs.Device.{Told}
use Rattle.cob_records_parts.proofs.Cutting.{SoFar}
use Rattle.cob_records_parts.proofs.stream.cut_stream.Given as goal

abbrev pub invariant-loop-done : goal.invariant-loop-done
invariant-loop-done g l = record {
  so_far : Told (g.R.Source.coming l.initial.source) (g.R.Source.coming l.source) (SoFar l.form l.greatest l.pieces.items l.start l.offset l.done l.left);
  order : l.start.offset ≤ l.offset;
  few : length l.pieces.items < l.most;
  bound : l.offset ≤ l.done * 32760;
  room : length l.slot ≡ l.greatest;
  cause : g.R.Source.failures l.source ≡ g.R.Source.failures l.initial.source;
}
