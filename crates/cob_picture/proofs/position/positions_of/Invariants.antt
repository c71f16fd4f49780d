use Rattle.std.proofs.Common.{◌≡◌, false, take}
use Rattle.cob_picture.specs.Positions.{written_out, floating, positions_from}
use Rattle.cob_picture.proofs.Placed.{seen_after}
use Rattle.cob_picture.proofs.position.positions_of.Given as goal

abbrev pub invariant-loop-run : goal.invariant-loop-run
invariant-loop-run l = record {
  items : l.positions.items ≡ positions_from l.category (floating (written_out l.runs)) false (written_out (take l.run-index l.runs));
  seen : l.seen ≡ seen_after (floating (written_out l.runs)) false (written_out (take l.run-index l.runs));
}
