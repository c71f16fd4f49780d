-- There is room for a record and its places.
use Rattle.std.proofs.Common.{◌≡◌, length}
use Rattle.cob_copybook_tree.specs.Lengths.{greatest_number, sum_of}
use Rattle.cob_layout.specs.Standing.{IsRoomFor}
use Rattle.cob_report_formats.proofs.listing.list_records.Given as goal

abbrev pub invariant-loop-done : goal.invariant-loop-done
invariant-loop-done g l = record {
  bytes : length l.bytes ≡ sum_of greatest_number l.layout;
  room : IsRoomFor l.layout l.places;
}
