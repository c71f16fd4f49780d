-- Records that come in: read in their frames, and judged by their layout.
use Rattle.std.specs.Prelude.{◌≡◌, ◌≤◌, ◌⊎◌, false, ℕ, List, [], length, map, take, None, Some, Option, Ok, Err, Result}
use Rattle.cob_records.specs.declared.records.Form.{Form}
use Rattle.cob_records.specs.declared.records.RecordFault.{RecordFault}
use Rattle.cob_records.specs.Frame.{IsRecord, IsSeen, is_write_fault}
use Rattle.cob_records.specs.Forms.{ComesFirst, ReadsInForm}
use Rattle.cob_copybook_tree.specs.Forests.{Forest}
use Rattle.cob_copybook_tree.specs.Nodes.{Resolved}
use Rattle.cob_layout.specs.Storage.{greatest_length}
use Rattle.cob_convert_stream.specs.declared.fault.Reason.{Reason}
use Rattle.cob_convert_stream.specs.declared.misfit.MeasureFault.{MeasureFault}
use Rattle.cob_convert_stream.specs.Reasons.{frame_reason, misfit_reason}
use Rattle.cob_convert_stream.specs.Sizes.{IsMeasureFault, IsSized}

-- of records that came, each beside what it gave, just these
abbrev pub records_in : List (List ℕ × List ℕ) → List (List ℕ)
records_in pairs = map (λ (pair : List ℕ × List ℕ). pair.0) pairs

-- What stands behind records that came: how many bytes the open block still holds, the bytes that were left, and those of them that are still to
-- come.
pub record Remains : Type 0 where
  pub opened : ℕ
  pub left : List ℕ
  pub rest : List ℕ

-- so many bytes at the front of the caller's slice are a record that may stand in a frame, and one of the layout
pub record IsJudged (form : Form) (tree : Forest Resolved) (slice : List ℕ) (count : ℕ) : Type 0 where
  pub within : count ≤ length slice
  pub whole : IsRecord form (greatest_length tree) (take count slice)
  pub sized : IsSized form tree (take count slice)

-- the next frame can't be read
pub record IsUnread (form : Form) (tree : Forest Resolved) (left after : ℕ) (bytes rest : List ℕ) (why : Reason) : Type 0 where
  pub fault : RecordFault
  pub reads : ReadsInForm form (greatest_length tree) left [] (Err fault) after bytes rest
  pub reason : why ≡ frame_reason fault

-- a record came whole, just its frame was read, and it isn't one of its layout
pub record IsUnfit (form : Form) (tree : Forest Resolved) (left after : ℕ) (bytes rest : List ℕ) (why : Reason) : Type 0 where
  pub input : List ℕ
  pub misfit : MeasureFault
  pub whole : IsRecord form (greatest_length tree) input
  pub frame : ComesFirst form left input bytes after rest
  pub misfits : IsMeasureFault form tree input misfit
  pub reason : why ≡ misfit_reason misfit

-- Why the next record is refused, whichever bytes came: its frame can't be read, which is no fault of writing; or so many bytes at the front of the
-- caller's slice are a record that may stand in a frame, and none of the layout.
abbrev pub IsInputReason : Form → Forest Resolved → List ℕ → Reason → Type 0
IsInputReason form tree slice why =
    ((fault : RecordFault) × IsSeen form (greatest_length tree) fault × (is_write_fault fault ≡ false) × (why ≡ frame_reason fault))
    ⊎ ((count : ℕ) × (misfit : MeasureFault) × (count ≤ length slice) × IsRecord form (greatest_length tree) (take count slice)
    × IsMeasureFault form tree (take count slice) misfit × (why ≡ misfit_reason misfit))

-- What the answer to a call that reads the next record and judges it says, where the open block holds so many bytes before it and so many behind it:
-- of the bytes that were to come, of the record that it left at the front of the caller's slice, and of what is still to come. No byte was left; a
-- record of the layout came whole, and just its frame was read; the next frame can't be read; or a record came that isn't one of the layout.
abbrev pub ReadsRecord : Form → Forest Resolved → ℕ → List ℕ → Result (Option ℕ) Reason → ℕ → List ℕ → List ℕ → Type 0
ReadsRecord form tree left slice (Ok None) after bytes rest = ReadsInForm form (greatest_length tree) left slice (Ok None) after bytes rest
ReadsRecord form tree left slice (Ok (Some count)) after bytes rest =
    IsJudged form tree slice count × ComesFirst form left (take count slice) bytes after rest
ReadsRecord form tree left slice (Err why) after bytes rest =
    IsUnread form tree left after bytes rest why ⊎ IsUnfit form tree left after bytes rest why
