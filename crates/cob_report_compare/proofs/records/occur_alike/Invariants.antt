use Rattle.std.proofs.Common.{◌≡◌, ℕ, ◌<◌}
use Rattle.cob_layout.specs.Ways.{spot_at}
use Rattle.cob_report_compare.proofs.records.occur_alike.Given as goal

abbrev pub invariant-loop-number : goal.invariant-loop-number
invariant-loop-number l = record {
  alike : (k : ℕ) → k < l.number → (spot_at l.left.places.now.spots k).times ≡ (spot_at l.right.places.now.spots k).times;
}
