use Rattle.std.proofs.Common.{◌≡◌, ◌≤◌, ℕ, true, false, drop}
use Rattle.cob_layout.specs.Finding.{are_met}
use Rattle.cob_layout.proofs.finding.reach_of.Given as goal

abbrev pub invariant-loop-index : goal.invariant-loop-index
invariant-loop-index l = record {
  met : (behind : ℕ) → behind ≤ l.reach → are_met behind false 0 l.counts (drop l.index l.tables) (drop l.index l.kept) ≡ true
      → are_met behind false 0 l.counts l.tables l.kept ≡ true;
}
