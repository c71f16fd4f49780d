-- How much of a stream of records has passed, and a source that tells it.
use Rattle.std.specs.Prelude.{◌≡◌, ℕ, [], ◌+◌, ◌-◌, ◌*◌, ◌/◌, ◌<◌, ◌≤◌, ◌&&◌, ◌||◌, nat_lt, nat_le, Bool, false, if◌then◌else◌, All, List, ◌++◌, length, take, min, Option, Some, None}
use Rattle.cob_records.specs.declared.records.Form.{Form}
use Rattle.cob_records.specs.declared.records.Form.TheVariants.{Fixed, Variable, Blocked}
use Rattle.cob_records.specs.declared.place.StreamPlace.{StreamPlace}
use Rattle.cob_records.specs.declared.place.StreamPlace.TheVariants as place
use Rattle.cob_records.specs.declared.passed.Passed.{Passed}
use Rattle.cob_records.specs.declared.progress.Progress.{Progress}
use Rattle.cob_records.specs.declared.report.Forecast.{Forecast}
use Rattle.cob_records.specs.declared.report.Report.{Report}
use Rattle.cob_records.specs.Device.{greatest_count}
use Rattle.cob_records.specs.BlockReads.{Leads}
use Rattle.cob_records.specs.Forms.{Come, ComesFirst}
use Rattle.cob_records.specs.Frame.{IsRecord, descriptor, is_unblocked}

-- a whole frame of a record stands first in the bytes, where the open block, if there are blocks, still holds so many
abbrev pub BeginsWithFrame : Form → (greatest left : ℕ) → List ℕ → Type 0
BeginsWithFrame form greatest left bytes =
    (body : List ℕ) × (after : ℕ) × (more : List ℕ) × IsRecord form greatest body × ComesFirst form left body bytes after more

-- Bytes hold so many whole frames: the frames of so many records stand at their front one behind the other, and what is behind them
-- does not begin with a frame.
abbrev pub HoldsFrames : Form → ℕ → ℕ → List ℕ → Type 0
HoldsFrames form greatest count bytes = (bodies : List (List ℕ)) × (left : ℕ) × (rest : List ℕ) × All (IsRecord form greatest) bodies
    × (length bodies ≡ count) × Come form 0 bodies bytes left rest × (BeginsWithFrame form greatest left rest → ⊥)

-- a count that stays at its greatest value
abbrev pub kept_count : ℕ → ℕ
kept_count count = min count greatest_count

-- The bytes before a record descriptor word have passed, whose frame has so much room: in blocks those of the block's descriptor, where the frame
-- is its first.
abbrev pub IsBefore : Form → (left room : ℕ) → List ℕ → Type 0
IsBefore Fixed left room bytes = ⊥
IsBefore Variable left room bytes = (bytes ≡ []) × (room ≡ left)
IsBefore (Blocked most) left room bytes = Leads most left room bytes × (4 ≤ room)

-- a frame of this record ends within a block that has so much room, and so much is left behind it; without blocks nothing is used up
abbrev pub IsWithin : Form → (size room after : ℕ) → Type 0
IsWithin Fixed size room after = after ≡ room
IsWithin Variable size room after = after ≡ room
IsWithin (Blocked most) size room after = room ≡ 4 + size + after

-- a frame of this record doesn't end within a block that has so much room
abbrev pub IsPast : Form → (size room : ℕ) → Type 0
IsPast Fixed size room = ⊥
IsPast Variable size room = ⊥
IsPast (Blocked most) size room = room < 4 + size

-- of a frame with a descriptor these bytes have passed, so many of its record are still to come, and so many of the block behind it
abbrev pub IsBegunBehind : Form → (greatest left rest after : ℕ) → List ℕ → Type 0
IsBegunBehind form greatest left rest after bytes =
    (room : ℕ) × (size : ℕ) × (lead : List ℕ) × (part : List ℕ) × IsBefore form left room lead × (0 < size) × (size ≤ greatest)
    × (bytes ≡ lead ++ (descriptor size ++ part)) × (length part + rest ≡ size) × IsWithin form size room after

-- of a frame these bytes have passed, so many of its record are still to come, and so many of the block behind it
abbrev pub IsBegun : Form → (greatest left rest after : ℕ) → List ℕ → Type 0
IsBegun Fixed greatest left rest after bytes = (length bytes + rest ≡ greatest) × (after ≡ left)
IsBegun Variable greatest left rest after bytes = IsBegunBehind Variable greatest left rest after bytes
IsBegun (Blocked most) greatest left rest after bytes = IsBegunBehind (Blocked most) greatest left rest after bytes

-- behind these bytes no frame comes, whatever else comes
abbrev pub IsLost : Form → (greatest left : ℕ) → List ℕ → Type 0
IsLost form greatest left bytes = (more : List ℕ) → BeginsWithFrame form greatest left (bytes ++ more) → ⊥

-- where in a stream of frames the next byte stands, behind the last whole frame, where the open block held so many bytes, and these bytes
abbrev pub IsAt : Form → (greatest left : ℕ) → StreamPlace → List ℕ → Type 0
IsAt form greatest left (place.Block head seen) bytes = (left ≡ 0) × (is_unblocked form ≡ false) × (bytes ≡ take seen head)
IsAt form greatest left (place.Descriptor head seen room) bytes = (lead : List ℕ) × IsBefore form left room lead × (bytes ≡ lead ++ take seen head)
IsAt form greatest left (place.Record rest after) bytes = IsBegun form greatest left rest after bytes
IsAt form greatest left place.Lost bytes = IsLost form greatest left bytes

-- These bytes have passed of a stream, and are counted: the records whose frames stand at their front, so many of which there are; what the
-- open block holds behind them, and the place in the frame there; and all bytes.
pub record Counts (form : Form) (greatest : ℕ) (at : StreamPlace) (records count : ℕ) (bytes : List ℕ) : Type 0 where
  pub bodies : List (List ℕ)
  pub left : ℕ
  pub rest : List ℕ
  pub each : All (IsRecord form greatest) bodies
  pub all : Come form 0 bodies bytes left rest
  pub is_at : IsAt form greatest left at rest
  pub counted_records : records ≡ kept_count (length bodies)
  pub counted_bytes : count ≡ kept_count (length bytes)

-- these bytes are what has passed, and are counted
abbrev pub HasPassed : List ℕ → Passed → Type 0
HasPassed bytes passed = Counts passed.form passed.greatest passed.place passed.records passed.bytes bytes

-- this part passes behind whatever had passed before
abbrev pub Passes : List ℕ → Passed → Passed → Type 0
Passes part before now = (bytes : List ℕ) → HasPassed bytes before → HasPassed (bytes ++ part) now

-- so does the rest of a record, which has so many bytes, where the open block holds so many behind it
abbrev pub PassesRecord : (left room : ℕ) → Passed → Passed → Type 0
PassesRecord left room before now = (bytes part : List ℕ) → HasPassed bytes before → length part ≡ left
    → before.place ≡ place.Record left room → HasPassed (bytes ++ part) now

-- this part leads from where the next byte stands to this place
abbrev pub LeadsTo : Passed → StreamPlace → List ℕ → Type 0
LeadsTo passed at part = (left : ℕ) (rest : List ℕ) → IsAt passed.form passed.greatest left passed.place rest
    → IsAt passed.form passed.greatest left at (rest ++ part)

-- how many percent of the size these bytes are, and never more than all
abbrev pub percent_of : ℕ → ℕ → ℕ
percent_of bytes size = min (bytes * 100 / size) 100

-- how many seconds the rest takes, where the bytes that have passed took so many
abbrev pub seconds_left : ℕ → ℕ → ℕ → ℕ
seconds_left elapsed bytes size = elapsed * (size - bytes) / bytes

-- what is ahead of a stream, where its size is known, it is not empty, and a byte has passed
abbrev pub ahead_of : Option ℕ → ℕ → ℕ → Option Forecast
ahead_of None elapsed bytes = None
ahead_of (Some size) elapsed bytes =
    if nat_lt 0 size && nat_lt 0 bytes then Some (record { percent = percent_of bytes size; seconds = seconds_left elapsed bytes size }) else None

-- What is told where these bytes have passed of a stream of this size, in so many seconds: how many whole frames stand at their front,
-- how many bytes they are, and what is ahead.
pub record IsReportOf (form : Form) (greatest : ℕ) (size : Option ℕ) (elapsed : ℕ) (stream : List ℕ) (report : Report) : Type 0 where
  pub records : (count : ℕ) × HoldsFrames form greatest count stream × (report.records ≡ kept_count count)
  pub bytes : report.bytes ≡ kept_count (length stream)
  pub ahead : report.ahead ≡ ahead_of size elapsed (kept_count (length stream))

-- a second of the clock
abbrev pub second : ℕ
second = 1000000000

-- it is time to tell: a second at least has gone by since the last time
abbrev pub is_due : ℕ → ℕ → Bool
is_due told now = nat_le (told + second) now

-- The time from which the next second is counted: now, where it is told now; and now also where the clock went back, since it might
-- take long to come to the last time again.
abbrev pub told_from : ℕ → ℕ → ℕ
told_from told now = if is_due told now || nat_lt now told then now else told

-- the source inside
abbrev pub progress_inner : {R T : Type 0} → Progress R T → R
progress_inner source = source.inner

-- what has passed of the source inside
abbrev pub progress_passed : {R T : Type 0} → Progress R T → Passed
progress_passed source = source.passed
