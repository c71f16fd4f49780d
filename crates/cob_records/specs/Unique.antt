-- A stream is cut into records in one way: its bytes decide each answer of a reader, as long as no read fails.
use Rattle.std.specs.Prelude.{◌≡◌, ℕ, ◌<◌, ◌≤◌, false, List, [], ◌++◌, length, take, Some, Option, Ok, Result}
use Rattle.cob_limits.specs.Limits.{longest_record}
use Rattle.cob_records.specs.declared.records.Form.{Form}
use Rattle.cob_records.specs.declared.records.RecordFault.{RecordFault}
use Rattle.cob_records.specs.Frame.{framed, IsRecord, Reads, is_read_failure}

-- the record that an answer leaves at the front of the caller's slice, if it names one
abbrev pub record_in : List ℕ → Result (Option ℕ) RecordFault → List ℕ
record_in slice (Ok (Some count)) = take count slice
record_in slice _ = []

-- two records whose frames begin the same bytes are one, and what follows them is the same
abbrev pub FramesAreOne : Type 0
FramesAreOne = (form : Form) (greatest : ℕ) (a b xs ys : List ℕ) → 0 < greatest → greatest ≤ longest_record
    → IsRecord form greatest a → IsRecord form greatest b → framed form a ++ xs ≡ framed form b ++ ys → (a ≡ b) × (xs ≡ ys)

-- two readings of the same bytes, of which none failed, have one answer, one record and one rest
abbrev pub ReadingIsOne : Type 0
ReadingIsOne = (form : Form) (greatest : ℕ) (bytes slice other rest left : List ℕ) (answer second : Result (Option ℕ) RecordFault)
    → 0 < greatest → greatest ≤ longest_record → Reads form greatest slice answer bytes rest → Reads form greatest other second bytes left
    → is_read_failure answer ≡ false → is_read_failure second ≡ false
    → (answer ≡ second) × (record_in slice answer ≡ record_in other second) × (rest ≡ left)

-- a record that was written is what is read: where its frame stands first, a reading that did not fail gives this record
abbrev pub FramesReadBack : Type 0
FramesReadBack = (form : Form) (greatest : ℕ) (body more slice rest : List ℕ) (answer : Result (Option ℕ) RecordFault)
    → 0 < greatest → greatest ≤ longest_record → IsRecord form greatest body → Reads form greatest slice answer (framed form body ++ more) rest
    → is_read_failure answer ≡ false → (answer ≡ Ok (Some (length body))) × (take (length body) slice ≡ body) × (rest ≡ more)
