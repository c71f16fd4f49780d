use Rattle.std.proofs.Common.{◌≡◌, drop}
use Rattle.cob_layout.specs.Legal.{are_legal}
use Rattle.cob_layout.proofs.legal.are_legal.Given as goal

abbrev pub invariant-loop-table : goal.invariant-loop-table
invariant-loop-table l = record {
  same : are_legal (drop l.table-index l.tables) l.spots l.rest ≡ are_legal l.tables l.spots l.subscripts;
}
