-- A stream in blocks is cut into records in one way.
use Rattle.std.specs.Prelude.{◌≡◌, ℕ, ◌≤◌, false, List, Option, Result}
use Rattle.cob_records.specs.declared.records.RecordFault.{RecordFault}
use Rattle.cob_limits.specs.Limits.{longest_block, longest_record}
use Rattle.cob_records.specs.Frame.{is_read_failure}
use Rattle.cob_records.specs.Unique.{record_in}
use Rattle.cob_records.specs.BlockReads.{ReadsInBlock}

-- two readings of the same bytes in a block that holds as much, of which none failed, have one answer, one record, one block behind it and one rest
abbrev pub BlockReadingIsOne : Type 0
BlockReadingIsOne = (most greatest left : ℕ) (bytes slice other rest over : List ℕ) (answer second : Result (Option ℕ) RecordFault) (after later : ℕ)
    → most ≤ longest_block → greatest ≤ longest_record → ReadsInBlock most greatest left slice answer after bytes rest
    → ReadsInBlock most greatest left other second later bytes over
    → is_read_failure answer ≡ false → is_read_failure second ≡ false
    → (answer ≡ second) × (record_in slice answer ≡ record_in other second) × (after ≡ later) × (rest ≡ over)
