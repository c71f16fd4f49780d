-- Records that came whole, before they are judged by their layout, and why one is none of it.
use Rattle.std.specs.Prelude.{◌≡◌, ◌≤◌, ℕ, List, length, take, Option, Ok, Err, Result}
use Rattle.cob_records.specs.declared.records.Form.{Form}
use Rattle.cob_records.specs.Frame.{IsRecord}
use Rattle.cob_records.specs.Forms.{ReadsInForm}
use Rattle.cob_copybook_tree.specs.Forests.{Forest}
use Rattle.cob_copybook_tree.specs.Nodes.{Resolved}
use Rattle.cob_layout.specs.Storage.{greatest_length}
use Rattle.cob_convert_stream.specs.declared.fault.Reason.{Reason}
use Rattle.cob_convert_stream.specs.declared.misfit.MeasureFault.{MeasureFault}
use Rattle.cob_convert_stream.specs.Reasons.{misfit_reason}
use Rattle.cob_convert_stream.specs.Sizes.{IsMeasureFault}
use Rattle.cob_convert_stream.specs.Input.{IsUnread}

-- so many bytes at the front of the caller's slice are a record that may stand in a frame
abbrev pub IsWholeRecord : Form → Forest Resolved → List ℕ → ℕ → Type 0
IsWholeRecord form tree slice count = (count ≤ length slice) × IsRecord form (greatest_length tree) (take count slice)

-- What the answer to a call that reads the next record as it came says: of the bytes that were to come, of the record that it left at the front of
-- the caller's slice, and of what is still to come. No byte was left; a whole frame came, and just it was read; or the next frame can't be read.
abbrev pub ReadsWhole : Form → Forest Resolved → ℕ → List ℕ → Result (Option ℕ) Reason → ℕ → List ℕ → List ℕ → Type 0
ReadsWhole form tree left slice (Ok found) after bytes rest = ReadsInForm form (greatest_length tree) left slice (Ok found) after bytes rest
ReadsWhole form tree left slice (Err why) after bytes rest = IsUnread form tree left after bytes rest why

-- a record that came whole isn't one of its layout, and this is the reason
abbrev pub IsMisfitReason : Form → Forest Resolved → List ℕ → Reason → Type 0
IsMisfitReason form tree input why = (misfit : MeasureFault) × IsMeasureFault form tree input misfit × (why ≡ misfit_reason misfit)
