-- The records of a file that are shown, and how that ends.
use Rattle.std.specs.Prelude.{◌≡◌, ℕ, ◌+◌, ◌-◌, ◌^◌, ◌<◌, ◌⊎◌, min, List, [], ◌∷◌, ◌++◌, length, take, flat_map, if◌then◌else◌, Option, None, Some, Ok, Err, Result}
use Rattle.std.specs.Io.KnownBytes.{append_known}
use Rattle.cob_copybook_tree.specs.Forests.{Forest}
use Rattle.cob_copybook_tree.specs.Nodes.{Resolved}
use Rattle.cob_layout_places.specs.declared.counts.CountFault.{CountFault}
use Rattle.cob_move_data.specs.declared.operands.Side.TheVariants.{In, Out}
use Rattle.cob_layout.specs.Counting.{CountsOf}
use Rattle.cob_layout.specs.Standing.{Standing, ArePlaces}
use Rattle.cob_layout.specs.Storage.{current_length, greatest_length}
use Rattle.cob_records.specs.Device.{greatest_count}
use Rattle.cob_records.specs.declared.records.Form.{Form}
use Rattle.cob_records.specs.declared.records.RecordFault.{RecordFault}
use Rattle.cob_records.specs.declared.records.RecordFault.TheVariants.{Length}
use Rattle.cob_records.specs.Forms.{Come, ComesFirst, ReadsInForm}
use Rattle.cob_records.specs.Frame.{IsRecord}
use Rattle.cob_convert_stream.specs.declared.fault.Cause.TheVariants.{Count, Limit, Record}
use Rattle.cob_convert_stream.specs.declared.fault.Reason.{Reason}
use Rattle.cob_convert_stream.specs.declared.fault.RunFault.{RunFault}
use Rattle.cob_convert_stream.specs.Input.{Remains, records_in}
use Rattle.cob_convert_stream.specs.Reasons.{frame_reason, reason_of}
use Rattle.cob_report_show.specs.declared.records.ShowFault.{ShowFault}
use Rattle.cob_report_show.specs.declared.records.ShowFault.TheVariants.{Memory, Run}
use Rattle.cob_report_show.specs.Lines.{AreRecordLines, BeginRecordLines}
use Rattle.cob_convert_stream.specs.Sizes.{IsFitting}

-- how many records are shown at most
abbrev pub most_shown : ℕ
most_shown = 2 ^ 64 - 2

-- a record whose counts are valid, and that is as long as they say; and where its entries stand under them
pub record IsLegible (form : Form) (tree : Forest Resolved) (input : List ℕ) (s : Standing) : Type 0 where
  pub counts : CountsOf tree input (Ok s.counts)
  pub laid : ArePlaces tree s.counts s
  pub long : IsFitting form (current_length s.counts tree) (length input)

-- a record that came whole, with the lines that are printed of it under its number
pub record IsRecordShown (form : Form) (tree : Forest Resolved) (number : ℕ) (pair : List ℕ × List ℕ) : Type 0 where
  pub whole : IsRecord form (greatest_length tree) pair.0
  pub places : Standing
  pub legible : IsLegible form tree pair.0 places
  pub lines : AreRecordLines (record { tree = tree; places = places; bytes = pair.0 }) number pair.1

-- such records one behind another, behind n others
abbrev pub AreRecordsShown : Form → Forest Resolved → ℕ → List (List ℕ × List ℕ) → Type 0
AreRecordsShown form tree n [] = Unit {0}
AreRecordsShown form tree n (pair ∷ pairs) = IsRecordShown form tree (n + 1) pair × AreRecordsShown form tree (n + 1) pairs

-- the lines that were printed of them
abbrev pub lines_of : List (List ℕ × List ℕ) → List ℕ
lines_of pairs = flat_map (λ pair. pair.1) pairs

-- a whole frame was left, where the open block held so many bytes, and just this was read
abbrev pub ComesWhole : Form → Forest Resolved → (opened : ℕ) → List ℕ → List ℕ → ℕ → List ℕ → Type 0
ComesWhole form tree opened input left after rest = IsRecord form (greatest_length tree) input × ComesFirst form opened input left after rest

-- the reason of a count that isn't valid: at its offset, or for the record's length where the count's item ends past the record
abbrev pub count_reason : CountFault → Reason
count_reason fault = if fault.short then frame_reason Length else record { side = In; offset = fault.offset; cause = Count }

-- a record that came whole isn't legible: for its first count that isn't valid, or for another length than its counts say
abbrev pub IsIllegible : Form → Forest Resolved → List ℕ → Reason → Type 0
IsIllegible form tree input why =
    ((fault : CountFault) × CountsOf tree input (Err fault) × (why ≡ count_reason fault))
    ⊎ ((counts : List ℕ) × CountsOf tree input (Ok counts) × (IsFitting form (current_length counts tree) (length input) → ⊥)
    × (why ≡ frame_reason Length))

-- the next record stops it, for this reason: its frame can't be read, or came whole and isn't legible
abbrev pub StopsReading : Form → Forest Resolved → (opened : ℕ) → Reason → ℕ → List ℕ → List ℕ → Type 0
StopsReading form tree opened why after left rest =
    ((fault : RecordFault) × ReadsInForm form (greatest_length tree) opened [] (Err fault) after left rest × (why ≡ frame_reason fault))
    ⊎ ((input : List ℕ) × ComesWhole form tree opened input left after rest × IsIllegible form tree input why)

-- what the answer to a call that reads the next record says of the bytes that were to come, where the open block held so many before it and holds so
-- many behind it
abbrev pub ReadsNext : Form → Forest Resolved → (opened : ℕ) → List ℕ → Result (Option ℕ) Reason → ℕ → List ℕ → List ℕ → Type 0
ReadsNext form tree opened slot (Ok None) after left rest = ReadsInForm form (greatest_length tree) opened slot (Ok None) after left rest
ReadsNext form tree opened slot (Ok (Some count)) after left rest = ComesFirst form opened (take count slot) left after rest
ReadsNext form tree opened slot (Err why) after left rest = StopsReading form tree opened why after left rest

-- as many records as at most were shown, and nothing behind them was read
pub record LimitEnds (n : ℕ) (at : Remains) (part : List ℕ) (fault : RunFault) : Type 0 where
  pub limit : n ≡ most_shown
  pub unread : at.rest ≡ at.left
  pub nothing : part ≡ []
  pub side : fault.side ≡ In
  pub offset : fault.offset ≡ 0
  pub cause : fault.cause ≡ Limit

-- the next record couldn't be read, for the reason that the fault tells
pub record ReadEnds (form : Form) (tree : Forest Resolved) (n : ℕ) (at : Remains) (part : List ℕ) (fault : RunFault) : Type 0 where
  pub below : n < most_shown
  pub nothing : part ≡ []
  pub side : fault.side ≡ In
  pub after : ℕ
  pub stops : StopsReading form tree at.opened (reason_of fault) after at.left at.rest

-- the next record came whole and is legible, and its lines couldn't all be written
pub record WriteEnds (form : Form) (tree : Forest Resolved) (n : ℕ) (at : Remains) (part : List ℕ) (fault : RunFault) : Type 0 where
  pub below : n < most_shown
  pub input : List ℕ
  pub after : ℕ
  pub comes : ComesWhole form tree at.opened input at.left after at.rest
  pub places : Standing
  pub legible : IsLegible form tree input places
  pub begun : BeginRecordLines (record { tree = tree; places = places; bytes = input }) (n + 1) part
  pub side : fault.side ≡ Out
  pub offset : fault.offset ≡ 0
  pub why : RecordFault
  pub cause : fault.cause ≡ Record why

-- How it ends behind n records, of whose lines so many bytes were written, and of the next one's this part: at the end of the bytes; for want of
-- memory, before the first was read; or at the record behind the n.
abbrev pub EndsShow : Form → Forest Resolved → ℕ → ℕ → Remains → List ℕ → Result ℕ ShowFault → Type 0
EndsShow form tree n sent at part (Ok number) = (number ≡ n) × (n < most_shown) × (at.opened ≡ 0) × (at.left ≡ []) × (at.rest ≡ []) × (part ≡ [])
EndsShow form tree n sent at part (Err Memory) = (n ≡ 0) × (at.rest ≡ at.left) × (part ≡ [])
EndsShow form tree n sent at part (Err (Run fault)) =
    (fault.number ≡ n + 1) × (fault.written ≡ min (sent + length part) greatest_count)
    × (LimitEnds n at part fault ⊎ (ReadEnds form tree n at part fault ⊎ WriteEnds form tree n at part fault))

-- Records that were shown with this answer, on a sink that told `before` and tells `now`, from these bytes, up to the rest: those that came whole
-- and are legible up to the first that stops it, and just their lines, with a beginning of the next one's where the sink failed.
pub record Shows (form : Form) (tree : Forest Resolved) (answer : Result ℕ ShowFault) (before now : Option (List ℕ)) (bytes rest : List ℕ) : Type 0 where
  pub pairs : List (List ℕ × List ℕ)
  pub opened : ℕ
  pub left : List ℕ
  pub part : List ℕ
  pub come : Come form 0 (records_in pairs) bytes opened left
  pub each : AreRecordsShown form tree 0 pairs
  pub output : now ≡ append_known before (lines_of pairs ++ part)
  pub ends : EndsShow form tree (length pairs) (length (lines_of pairs)) (record { opened = opened; left = left; rest = rest }) part answer
