use Rattle.std.proofs.Common.{◌≡◌, ◌+◌, ◌*◌, ◌≤◌, drop}
use Rattle.cob_picture.specs.Positions.{written_out, positions_from}
use Rattle.cob_picture.specs.Runs.{ArePositive}
use Rattle.cob_picture.specs.Counts.{digits}
use Rattle.cob_picture.proofs.counts.digits_of.Given as goal

abbrev pub invariant-loop-run : goal.invariant-loop-run
invariant-loop-run l = record {
  value : l.digits + digits (positions_from l.category l.floating l.seen (written_out (drop l.run-index l.runs))) ≡ digits (positions_from l.category l.floating l.fn.seen (written_out l.runs));
  positive : ArePositive (drop l.run-index l.runs);
  bound : l.digits ≤ 65535 * l.run-index;
}
