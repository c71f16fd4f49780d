-- What is still given of the chosen records of a stream, as a function of its bytes.
use Rattle.std.specs.Prelude.{◌≡◌, ℕ, zero, suc, ◌+◌, ◌-◌, ◌<◌, ◌≤◌, false, if◌then◌else◌, List, [], ◌∷◌, ◌++◌, None, Some, Option, Ok, Err, Result}
use Rattle.std.specs.List.{AllByRecursion}
use Rattle.cob_limits.specs.Limits.{longest_record}
use Rattle.cob_records.specs.Alone.{framed_alone}
use Rattle.cob_records.specs.Device.{Told}
use Rattle.cob_records.specs.Forms.{Come, HasBlockSize}
use Rattle.cob_records.specs.Frame.{IsRecord, is_read_failure}
use Rattle.cob_records.specs.declared.records.Form.{Form}
use Rattle.cob_records.specs.declared.records.RecordFault.{RecordFault}
use Rattle.cob_records.specs.declared.records.RecordFault.TheVariants as fault
use Rattle.cob_records_parts.specs.Choices.{HasCome, HasStopped}
use Rattle.cob_records_parts.specs.Firsts.{first_frame_in}
use Rattle.cob_records_parts.specs.declared.choice.Stopped.{Stopped}
use Rattle.cob_records_parts.specs.declared.walk.Walk.{Walk}

-- ---- where a frame can't be read

-- the number of a fault, which is no byte
abbrev pub fault_number : RecordFault → ℕ
fault_number fault.Descriptor = 256
fault_number fault.Spanned = 257
fault_number fault.Length = 258
fault_number fault.BlockDescriptor = 259
fault_number fault.PastBlock = 260
fault_number fault.ReadFailed = 261
fault_number (fault.WriteFailed taken) = 262
fault_number (fault.TookNothing taken) = 263
fault_number (fault.Truncated seen) = 264 + seen

-- What stands for a frame that can't be read: its fault. It never comes, since a read of it fails.
abbrev pub fault_mark : RecordFault → List ℕ
fault_mark fault = fault_number fault ∷ []

-- ---- what is given

-- what is given of a record: nothing, where records are still to be passed over, and else the record by itself
abbrev pub one_given : Form → (over : ℕ) → List ℕ → List ℕ
one_given form zero body = framed_alone form body
one_given form (suc n) body = []

-- what is given where this is the answer of a reading of the next frame: nothing at the end, this of a record, and the mark of a fault
abbrev pub given_by : Result (Option ℕ) RecordFault → List ℕ → List ℕ
given_by (Ok None) given = []
given_by (Ok (Some count)) given = given
given_by (Err fault) given = fault_mark fault

-- What is given of these bytes of a stream, of whose records so many are still passed over and so many may still come: the records behind those, each by
-- itself, up to the last that may come or the end; and where a frame can't be read before that, its mark.
abbrev pub given_of : Form → (greatest over most left : ℕ) → List ℕ → List ℕ
given_of form greatest over zero left bytes = []
given_of form greatest over (suc most) left bytes =
    given_by (first_frame_in form greatest left bytes).answer
    (one_given form over (first_frame_in form greatest left bytes).body
    ++ given_of form greatest (over - 1) most (first_frame_in form greatest left bytes).after (first_frame_in form greatest left bytes).rest)

-- what is still given of these bytes, where a stream has come so far
abbrev pub given_behind : Walk → List ℕ → List ℕ
given_behind walk bytes = given_of walk.form walk.greatest (walk.skip - walk.number) (walk.last - walk.number) walk.left bytes

-- ---- by one step

-- this is given of what came, and behind it what is given of what is still to come
abbrev pub GivesPart : List ℕ → Walk → Walk → (coming left : Option (List ℕ)) → Type 0
GivesPart part before now coming left = Told coming left (λ bytes rest. given_behind before bytes ≡ part ++ given_behind now rest)

-- nothing more is given
abbrev pub GivesNone : Walk → (coming left : Option (List ℕ)) → Type 0
GivesNone before coming left = Told coming left (λ bytes rest. given_behind before bytes ≡ [])

-- where the first record that is chosen has come, what is given of one of these bytes is this record by itself
abbrev pub GivesRecord : List ℕ → Walk → Walk → (coming left : Option (List ℕ)) → Type 0
GivesRecord body before now coming left = before.skip ≤ before.number → GivesPart (framed_alone before.form body) before now coming left

-- where no read failed, the mark of the fault at which it stopped is what is given
abbrev pub GivesMark : Stopped → Walk → (coming left : Option (List ℕ)) → Type 0
GivesMark stop before coming left =
    is_read_failure (Err stop.fault) ≡ false → Told coming left (λ bytes rest. given_behind before bytes ≡ fault_mark stop.fault)

-- ---- what that is

-- What is given of a stream is what is chosen of the records that come of it, and what is given behind these; and where the frame of the next one can't be
-- read, its mark.
pub record GivenAreChosen : Type 0 where
  pub come : (form : Form) (greatest skip last number left : ℕ) (chosen bytes rest : List ℕ) → HasBlockSize form → 0 < greatest → greatest ≤ longest_record
      → number ≤ last → HasCome form greatest skip number left chosen bytes rest
      → given_of form greatest skip last 0 bytes ≡ chosen ++ given_of form greatest (skip - number) (last - number) left rest
  pub stopped : (form : Form) (greatest skip last : ℕ) (stop : Stopped) (chosen bytes rest : List ℕ) → HasBlockSize form → 0 < greatest → greatest ≤ longest_record
      → stop.number ≤ last → is_read_failure (Err stop.fault) ≡ false → HasStopped form greatest skip stop chosen bytes rest
      → given_of form greatest skip last 0 bytes ≡ chosen ++ fault_mark stop.fault

-- Where a frame can't be read, what is given is not all records: a reading of it does not take the mark for one, nor end behind those before it.
abbrev pub MarkEndsNothing : Type 0
MarkEndsNothing = (form : Form) (greatest skip : ℕ) (stop : Stopped) (chosen bytes rest : List ℕ) (bodies : List (List ℕ)) → HasBlockSize form → 0 < greatest
    → greatest ≤ longest_record → is_read_failure (Err stop.fault) ≡ false → HasStopped form greatest skip stop chosen bytes rest
    → AllByRecursion (IsRecord form greatest) bodies → Come form 0 bodies (chosen ++ fault_mark stop.fault) 0 [] → ⊥

-- ---- where a source that gives it stopped

-- What is foretold to come, where it stopped so, or did not: behind a fault that is no failed read the mark of this fault, and nothing else.
abbrev pub left_at : Option Stopped → Option (List ℕ) → Option (List ℕ)
left_at None told = told
left_at (Some stop) None = None
left_at (Some stop) (Some bytes) = if is_read_failure (Err stop.fault) then Some bytes else Some (fault_mark stop.fault)

-- this is what is left behind it, where it stopped so, or did not
abbrev pub IsLeftAt : Option Stopped → Option (List ℕ) → Type 0
IsLeftAt stop left = left_at stop left ≡ left

-- how many reads have failed, where it stopped so, or did not: none, where it did not
abbrev pub failures_at : Option Stopped → ℕ → ℕ
failures_at None failures = 0
failures_at (Some stop) failures = failures

-- What is still to come: what is still given, where it runs and its bytes are foretold; and behind a stop what was foretold there.
abbrev pub told_by : Option Stopped → (told given : Option (List ℕ)) → Option (List ℕ)
told_by None None given = None
told_by None (Some bytes) given = given
told_by (Some stop) told given = told
