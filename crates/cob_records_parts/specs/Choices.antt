-- Which records of a stream are chosen, and what is given of them.
use Rattle.std.specs.Prelude.{◌≡◌, ℕ, ◌+◌, ◌==◌, ◌&&◌, Bool, true, false, not, min, List, [], ◌∷◌, ◌++◌, length, drop, None, Some, Option, Ok, Err, Result}
use Rattle.std.specs.List.{AllByRecursion}
use Rattle.cob_records.specs.Alone.{framed_alone}
use Rattle.cob_records.specs.Device.{greatest_count}
use Rattle.cob_records.specs.Forms.{Come, ReadsInForm}
use Rattle.cob_records.specs.Frame.{IsRecord, is_read_failure, is_write_fault}
use Rattle.cob_records.specs.declared.records.Form.{Form}
use Rattle.cob_records.specs.declared.records.Form.TheVariants.{Fixed}
use Rattle.cob_records_parts.specs.declared.choice.Choice.{Choice}
use Rattle.cob_records_parts.specs.declared.choice.Stopped.{Stopped}

-- ---- which

-- nothing bounds how many are taken
abbrev pub is_unbounded : Option ℕ → Bool
is_unbounded None = true
is_unbounded (Some records) = false

-- all records are chosen
abbrev pub chooses_all : Choice → Bool
chooses_all choice = choice.skip == 0 && is_unbounded choice.records

-- the number of the last record that is taken behind so many
abbrev pub last_behind : ℕ → Option ℕ → ℕ
last_behind skip None = greatest_count
last_behind skip (Some records) = min (skip + records) greatest_count

-- the number of the last record that is chosen, where there are so many
abbrev pub last_chosen : Choice → ℕ
last_chosen choice = last_behind choice.skip choice.records

-- where it stopped, if it has, the fault is one of reading
abbrev pub stops_reading : Option Stopped → Bool
stops_reading None = true
stops_reading (Some stop) = not (is_write_fault stop.fault)

-- the answer is that a read failed
abbrev pub stops_by_read : {A : Type 0} → Result A Stopped → Bool
stops_by_read (Ok done) = false
stops_by_read (Err stop) = is_read_failure (Err stop.fault)

-- ---- what is given of them

-- records one behind another, each as it stands by itself in a stream of this form
abbrev pub all_alone : Form → List (List ℕ) → List ℕ
all_alone form [] = []
all_alone form (body ∷ bodies) = framed_alone form body ++ all_alone form bodies

-- So many records came whole of a stream, and these bytes are those that are chosen among them: all behind the first `skip`, each by itself.
pub record HasCome (form : Form) (greatest skip number left : ℕ) (chosen bytes rest : List ℕ) : Type 0 where
  pub bodies : List (List ℕ)
  pub each : AllByRecursion (IsRecord form greatest) bodies
  pub come : Come form 0 bodies bytes left rest
  pub many : length bodies ≡ number
  pub those : chosen ≡ all_alone form (drop skip bodies)

-- The same, and the frame of the record behind them can't be read.
pub record HasStopped (form : Form) (greatest skip : ℕ) (stop : Stopped) (chosen bytes rest : List ℕ) : Type 0 where
  pub bodies : List (List ℕ)
  pub opened : ℕ
  pub left : List ℕ
  pub slice : List ℕ
  pub after : ℕ
  pub each : AllByRecursion (IsRecord form greatest) bodies
  pub come : Come form 0 bodies bytes opened left
  pub next : stop.number ≡ length bodies + 1
  pub reads : ReadsInForm form greatest opened slice (Err stop.fault) after left rest
  pub those : chosen ≡ all_alone form (drop skip bodies)

-- ---- records of one length

-- So many records of one length stand in front of what is behind so many bytes.
pub record AreInFront (greatest count behind : ℕ) (bytes : List ℕ) : Type 0 where
  pub bodies : List (List ℕ)
  pub each : AllByRecursion (IsRecord Fixed greatest) bodies
  pub come : Come Fixed 0 bodies bytes 0 (drop behind bytes)
  pub many : length bodies ≡ count
