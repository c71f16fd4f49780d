use Rattle.std.proofs.Common.{drop}
use Rattle.cob_layout.specs.declared.counts.KeptRange.{KeptRange}
use Rattle.cob_layout.specs.Standing.{LieWithin}
use Rattle.cob_layout.proofs.RangeLemmas.{HoldsRange}
use Rattle.cob_layout.proofs.keeping.range_of.Given as goal

abbrev pub invariant-loop-one : goal.invariant-loop-one
invariant-loop-one l = record {
  within : (r : KeptRange) → HoldsRange r l.range → LieWithin r (drop l.one-index l.kept) → LieWithin r l.kept;
}
