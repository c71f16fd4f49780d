use Rattle.std.proofs.Common.{◌≡◌, ◌≤◌, ◌<◌, ◌*◌, ◌+◌, List, ℕ, length}
use Rattle.cob_records_parts.proofs.Cutting.{FixedSoFar}
use Rattle.cob_records_parts.proofs.fixed.pieces_of_size.Given as goal

abbrev pub invariant-loop-done : goal.invariant-loop-done
invariant-loop-done l = record {
  so_far : (bytes : List ℕ) → length bytes ≡ l.size → FixedSoFar l.greatest l.size l.pieces.items l.start bytes;
  few : length l.pieces.items < l.done;
  records : l.start.first + l.left ≤ l.size + 1;
  within : l.start.offset + l.left * l.greatest ≤ l.size;
}
