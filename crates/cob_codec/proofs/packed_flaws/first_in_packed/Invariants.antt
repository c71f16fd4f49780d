use Rattle.std.proofs.Common.{◌≡◌, ◌<◌, ℕ, true, slice_index}
use Rattle.cob_codec.specs.Packed.{halves}
use Rattle.cob_codec.specs.Flaws.{packed_wanted, suits}
use Rattle.cob_codec.proofs.packed_flaws.first_in_packed.Given as goal

abbrev pub invariant-loop-at : goal.invariant-loop-at
invariant-loop-at l = (k : ℕ) → k < l.at → suits l.shape.signed (packed_wanted l.shape.digits k) (slice_index (halves l.bytes) k) ≡ true
