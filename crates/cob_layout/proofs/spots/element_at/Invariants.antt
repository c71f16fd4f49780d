use Rattle.std.proofs.Common.{◌≡◌, drop}
use Rattle.cob_layout.specs.Ways.{first_element, moved}
use Rattle.cob_layout.proofs.spots.element_at.Given as goal

abbrev pub invariant-loop-table : goal.invariant-loop-table
invariant-loop-table l = record {
  same : moved l.spots (drop l.table-index l.tables) l.rest l.found ≡ moved l.spots l.tables l.subscripts (first_element l.spots l.number);
}
