-- What is written of a storage, and how the bytes are counted that a sink took.
use Rattle.std.specs.Prelude.{◌≡◌, ℕ, ◌+◌, min, List, length, Ok, Err, Result}
use Rattle.cob_records.specs.declared.records.Form.{Form}
use Rattle.cob_records.specs.declared.records.Form.TheVariants.{Fixed, Variable, Blocked}
use Rattle.cob_records.specs.declared.records.RecordFault.{RecordFault}
use Rattle.cob_records.specs.Device.{greatest_count}
use Rattle.cob_records.specs.Frame.{Puts, taken_of}
use Rattle.cob_copybook_tree.specs.Forests.{Forest}
use Rattle.cob_copybook_tree.specs.Nodes.{Resolved}
use Rattle.cob_layout.specs.Counting.{CountsOf}
use Rattle.cob_layout.specs.Storage.{IsCurrentPart}

-- What is written of an output storage, whose counts are all valid: in form f the whole of it, in forms v and b its current part.
abbrev pub IsOutputOf : Form → Forest Resolved → List ℕ → List ℕ → Type 0
IsOutputOf Fixed tree storage written = ((counts : List ℕ) × CountsOf tree storage (Ok counts)) × (written ≡ storage)
IsOutputOf Variable tree storage written = IsCurrentPart tree storage written
IsOutputOf (Blocked most) tree storage written = IsCurrentPart tree storage written

-- how many bytes a sink took, where so many were to be written and this was the answer
abbrev pub taken_in : ℕ → Result (Unit {0}) RecordFault → ℕ
taken_in whole (Ok done) = whole
taken_in whole (Err fault) = taken_of fault

-- What the answer to a call that writes these bytes says of the part of them that the sink took, and of the bytes that were counted
-- before and are now, up to the greatest count.
pub record PutsCounted (bytes : List ℕ) (answer : Result (Unit {0}) RecordFault) (before now : ℕ) (part : List ℕ) : Type 0 where
  pub puts : Puts bytes answer part
  pub counts : now ≡ min (before + length part) greatest_count
