use Rattle.std.proofs.Common.{◌≡◌, ◌<◌, ℕ, true, slice_index}
use Rattle.cob_codec.specs.Flaws.{separate_wanted, suits}
use Rattle.cob_codec.proofs.separate_flaws.first_in_separate.Given as goal

abbrev pub invariant-loop-at : goal.invariant-loop-at
invariant-loop-at l = (k : ℕ) → k < l.at → suits l.shape.signed (separate_wanted l.place k) (slice_index l.bytes k) ≡ true
