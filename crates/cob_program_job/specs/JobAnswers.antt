-- What a job comes to: its answer, the bytes of its output, and what is printed.
use Rattle.std.specs.Prelude.{◌≡◌, ℕ, ◌<◌, Bool, true, false, List, [], ◌∷◌, ◌++◌, ◌⊎◌, length, take, Some, Option, Result, Ok, Err, is_err, ⊤}
use Rattle.cob_limits.specs.Limits.{longest_job}
use Rattle.cob_records.specs.Hex.{hex_text}
use Rattle.cob_records.specs.Frame.{Puts}
use Rattle.cob_records.specs.declared.records.RecordFault.{RecordFault}
use Rattle.cob_records.specs.Device.{Took, counted}
use Rattle.std.specs.Io.KnownBytes.{append_known}
use Rattle.cob_program_faults.specs.WholeTexts.{IsReadOf, IsWhole}
use Rattle.cob_convert_record.specs.Conversion.{Conversion}
use Rattle.cob_convert_stream.specs.declared.fault.RunFault.{RunFault}
use Rattle.cob_convert.specs.declared.fault.PrepareFault.{PrepareFault}
use Rattle.cob_convert.specs.Means.{Means, IsPrepareRefusal}
use Rattle.cob_convert.specs.Run.{Ran, is_write_stop}
use Rattle.cob_convert.specs.Converted.{Converted}
use Rattle.cob_program_job.specs.declared.job_data.DataFault.{DataFault}
use Rattle.cob_program_job.specs.declared.fault.JobFault.{JobFault}
use Rattle.cob_program_job.specs.declared.fault.JobFault.TheVariants as job
use Rattle.cob_convert.specs.declared.status.Status.{Status}
use Rattle.cob_convert.specs.declared.status.Status.TheVariants as status
use Rattle.cob_convert.specs.Statuses.{code_of, printed_status}
use Rattle.cob_program_job.specs.JobData.{IsData, IsRefusedBy}
use Rattle.cob_program_job.specs.Jobs.{TellsAnswer, end_text, data_refusal, is_output_stop, is_unread, run_answer, status_of_answer, text_refusal}
use Rattle.cob_program_job.specs.Marks.{IsJobOf, IsNoJob, Parts, first_line_of}
use Rattle.cob_program_job.specs.Printed.{IsBegunBy, owes_begun, with_due}

-- The data are refused, and nothing is printed of them.
pub record DataRefused (parts : Parts) (first : ℕ) (answer : Result ℕ JobFault) (sent : List ℕ) : Type 0 where
  pub fault : DataFault
  pub refused : IsRefusedBy parts.digits first fault
  pub answer_is : answer ≡ Err (data_refusal fault)
  pub nothing : sent ≡ []

-- The data are bytes, and one of the three texts is refused, or the blocks of the output.
pub record TextRefused (parts : Parts) (answer : Result ℕ JobFault) (sent : List ℕ) : Type 0 where
  pub bytes : List ℕ
  pub digits : IsData parts.digits bytes
  pub fault : PrepareFault
  pub refused : IsPrepareRefusal parts.out_form fault parts.in_book parts.out_book parts.moves
  pub answer_is : answer ≡ Err (text_refusal fault)
  pub nothing : sent ≡ []

-- A converter was run over these bytes, up to a rest, with this answer, by a sink that told `before` and tells `now`.
abbrev pub RunsOver : Conversion → List ℕ → Result ℕ RunFault → Option (List ℕ) → Option (List ℕ) → Type 0
RunsOver conversion bytes answer before now = (rest : List ℕ) × Ran conversion answer bytes rest before now

-- The three texts say a conversion, and it was run over the bytes of the data: the bytes that were sent are those of a run, and of one that went to its end
-- or to its stop where the output took all.
pub record HasRun (parts : Parts) (answer : Result ℕ JobFault) (sent : List ℕ) : Type 0 where
  pub bytes : List ℕ
  pub digits : IsData parts.digits bytes
  pub conversion : Conversion
  pub means : Means parts.in_book parts.out_book parts.moves conversion
  pub in_form : conversion.in_form ≡ parts.in_form
  pub out_form : conversion.out_form ≡ parts.out_form
  pub end : Result ℕ RunFault
  pub rest : List ℕ
  pub ran : Ran conversion end bytes rest (Some []) (Some sent)
  pub converted : is_write_stop end ≡ false → Converted conversion bytes rest sent end
  pub answer_is : answer ≡ run_answer end

-- What a job of these parts comes to, the data of which begin in the line of this number.
pub data ComesTo (parts : Parts) (first : ℕ) (answer : Result ℕ JobFault) (sent : List ℕ) : Type 0 where
  InData : DataRefused parts first answer sent → ComesTo parts first answer sent
  InText : TextRefused parts answer sent → ComesTo parts first answer sent
  InRun : HasRun parts answer sent → ComesTo parts first answer sent

-- A text that is too long, or no job, is refused with the number of a line, and nothing is printed of it.
pub record JobRefused (text : List ℕ) (answer : Result ℕ JobFault) (sent : List ℕ) : Type 0 where
  pub number : ℕ
  pub refused : ((longest_job < length text) × (number ≡ 0)) ⊎ IsNoJob text number
  pub answer_is : answer ≡ Err (job.Malformed number)
  pub nothing : sent ≡ []

-- What a text comes to as a job: it is refused, or comes to what its parts do.
abbrev pub IsOutcome : List ℕ → Result ℕ JobFault → List ℕ → Type 0
IsOutcome text answer sent = JobRefused text answer sent ⊎ ((parts : Parts) × IsJobOf text parts × ComesTo parts (first_line_of text parts.digits) answer sent)

-- What came of a text is its outcome, whose bytes are printed as their text behind what was told before, and a flag says whether there are some.
pub record PrintsOutput (text : List ℕ) (answer : Result ℕ JobFault) (begun : Bool) (before now : Option (List ℕ)) : Type 0 where
  pub sent : List ℕ
  pub outcome : IsOutcome text answer sent
  pub printed : now ≡ append_known before (hex_text sent)
  pub begun_by : IsBegunBy begun before sent

-- the job could not be read whole: a read failed, or memory was refused
abbrev pub IsUnreadFault : JobFault → Type 0
IsUnreadFault fault = (fault ≡ job.CannotRead) ⊎ (fault ≡ job.Memory)

-- What comes of a source that told `before` and tells `now`: a text was read, whole or longer than a job may be, and comes to this; or it was not read.
abbrev pub IsJobAnswer : Option (List ℕ) → Option (List ℕ) → Result ℕ JobFault → List ℕ → Type 0
IsJobAnswer before now answer sent = ((fault : JobFault) × IsUnreadFault fault × (answer ≡ Err fault) × (sent ≡ []))
    ⊎ ((text : List ℕ) × IsReadOf before now text × IsWhole longest_job now text × IsOutcome text answer sent)

-- the output as a line of digits, and no line where there is no byte
abbrev pub output_line : List ℕ → List ℕ
output_line [] = []
output_line (byte ∷ bytes) = hex_text (byte ∷ bytes) ++ 10 ∷ []

-- all that a job prints: the line of its output, and the line of these words
abbrev pub job_text : List ℕ → List ℕ → List ℕ
job_text sent words = output_line sent ++ (words ++ 10 ∷ [])

-- What is printed, and the status: all of it, and the status of the answer; or, where the output failed, a beginning of it, and the status of a device.
abbrev pub IsJobPrinted : Result ℕ JobFault → List ℕ → Bool → Status → List ℕ → Type 0
IsJobPrinted answer sent false end printed = (words : List ℕ) × TellsAnswer answer words × (printed ≡ job_text sent words) × (end ≡ status_of_answer answer)
IsJobPrinted answer sent true end printed = (words : List ℕ) × (size : ℕ) × TellsAnswer answer words × (printed ≡ take size (job_text sent words)) × (end ≡ status.Device)

-- what a sink tells, and how many of its calls have failed
pub record SinkState : Type 0 where
  pub taken : Option (List ℕ)
  pub failed : ℕ

-- a sink that tells this, and so many of whose calls have failed
abbrev pub sink_state : Option (List ℕ) → ℕ → SinkState
sink_state taken failed = record { taken = taken; failed = failed }

-- A sink took what ends a job with this answer, or a beginning of it where that was not put whole.
abbrev pub PutsEnd : Result ℕ JobFault → Option ℕ → Bool → Result (Unit {0}) RecordFault → Option (List ℕ) → Option (List ℕ) → Type 0
PutsEnd answer due begun put before now = (words : List ℕ) × TellsAnswer answer words × Took before now (Puts (end_text due begun words) put)

-- The end of a job was printed with this status: nothing more, where the output had failed; else the line of the answer, or a beginning of it.
pub record HasEnded (answer : Result ℕ JobFault) (due : Option ℕ) (begun : Bool) (before now : SinkState) (end : Status) : Type 0 where
  pub stopped : is_output_stop answer ≡ true → (now ≡ before) × (end ≡ status.Device)
  pub printed : is_output_stop answer ≡ false → (put : Result (Unit {0}) RecordFault) × PutsEnd answer due begun put before.taken now.taken
      × (now.failed ≡ counted (is_err put) before.failed) × (end ≡ printed_status put (status_of_answer answer))

-- What the two ends of a job tell before and after it, and how many of their calls have failed.
pub record JobEnds : Type 0 where
  pub coming : Option (List ℕ)
  pub reads_failed : ℕ
  pub taken : Option (List ℕ)
  pub writes_failed : ℕ

-- the ends of a job that tell this, and so many of whose calls have failed
abbrev pub job_ends : Option (List ℕ) → ℕ → Option (List ℕ) → ℕ → JobEnds
job_ends coming reads_failed taken writes_failed = record { coming = coming; reads_failed = reads_failed; taken = taken; writes_failed = writes_failed }

-- What came of a source is printed, but for a digit that is due and the line at the end; a flag says whether a byte was printed.
pub record PrintsAnswer (before now : JobEnds) (answer : Result ℕ JobFault) (due : Option ℕ) (begun : Bool) : Type 0 where
  pub sent : List ℕ
  pub answers : IsJobAnswer before.coming now.coming answer sent
  pub printed : with_due now.taken due ≡ append_known before.taken (hex_text sent)
  pub begun_by : IsBegunBy begun before.taken sent
  pub owed : owes_begun due begun ≡ true
  pub reads : now.reads_failed ≡ counted (is_unread answer) before.reads_failed
  pub writes : now.writes_failed ≡ counted (is_output_stop answer) before.writes_failed

-- A job was done between these two states of its ends, with this number for the system: the source gave a text, which came to an answer; and the output
-- and a last line were printed, or a beginning of them where the output failed.
pub record IsDone (before now : JobEnds) (code : ℕ) : Type 0 where
  pub answer : Result ℕ JobFault
  pub sent : List ℕ
  pub failed : Bool
  pub end : Status
  pub answers : IsJobAnswer before.coming now.coming answer sent
  pub reads : now.reads_failed ≡ counted (is_unread answer) before.reads_failed
  pub writes : now.writes_failed ≡ counted failed before.writes_failed
  pub stops : is_output_stop answer ≡ true → failed ≡ true
  pub printed : Took before.taken now.taken (IsJobPrinted answer sent failed end)
  pub code_is : code ≡ code_of end

-- A job was done, and its sink is lent: what it has taken at the end stands with its lender.
abbrev pub EndsWith : JobEnds → Option (List ℕ) → ℕ → ℕ → Type 0
EndsWith before coming reads_failed code = (taken : Option (List ℕ)) × (writes_failed : ℕ) × IsDone before (job_ends coming reads_failed taken writes_failed) code
