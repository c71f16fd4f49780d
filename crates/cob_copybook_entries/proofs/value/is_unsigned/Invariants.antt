use Rattle.std.proofs.Common.{length}
use Rattle.std.specs.Prelude.{false}
use Rattle.cob_copybook_entries.specs.Parts.{IsUnsigned}
use Rattle.cob_copybook_entries.proofs.value.is_unsigned.Given as goal

abbrev pub invariant-loop-character : goal.invariant-loop-character
invariant-loop-character l = record {
  on : IsUnsigned l.some l.rest → IsUnsigned false l.text;
  back : IsUnsigned false l.text → IsUnsigned l.some l.rest;
}

abbrev pub decreases-loop-character : goal.decreases-loop-character
decreases-loop-character l = length l.rest
