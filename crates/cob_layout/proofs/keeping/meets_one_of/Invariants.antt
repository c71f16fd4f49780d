use Rattle.std.proofs.Common.{◌≡◌, drop}
use Rattle.cob_layout.specs.Standing.{meets_kept}
use Rattle.cob_layout.proofs.keeping.meets_one_of.Given as goal

abbrev pub invariant-loop-one : goal.invariant-loop-one
invariant-loop-one l = record {
  same : meets_kept l.place (drop l.one-index l.kept) ≡ meets_kept l.place l.kept;
}
