-- Why a job is not done, what each fault of its parts is for the job, and the line and the status with which it ends: want of memory is told as that,
-- and never as a fault of a text.
use Rattle.std.specs.Prelude.{◌≡◌, ℕ, Bool, true, false, List, [], ◌∷◌, ◌++◌, codes, decimal, Option, Result, Ok, Err, ⊤}
use Rattle.cob_program_faults.specs.declared.whole_text.TextFault.{TextFault}
use Rattle.cob_program_faults.specs.declared.whole_text.TextFault.TheVariants as text
use Rattle.cob_convert_stream.specs.declared.fault.RunFault.{RunFault}
use Rattle.cob_convert.specs.Run.{is_write_stop}
use Rattle.cob_convert.specs.declared.fault.PrepareFault.{PrepareFault}
use Rattle.cob_convert.specs.declared.fault.PrepareFault.TheVariants as prepare
use Rattle.cob_program_job.specs.Printed.{due_text}
use Rattle.cob_program_job.specs.declared.job_data.DataFault.{DataFault}
use Rattle.cob_program_job.specs.declared.job_data.DataFault.TheVariants as digits
use Rattle.cob_program_job.specs.declared.fault.JobFault.{JobFault}
use Rattle.cob_program_job.specs.declared.fault.JobFault.TheVariants as job
use Rattle.cob_convert.specs.declared.status.Status.{Status}
use Rattle.cob_convert.specs.declared.status.Status.TheVariants as status
use Rattle.cob_convert.specs.Statuses.{status_of_prepare_fault, status_of_stop}

-- what the refusal of a text is for the job
abbrev pub text_refusal : PrepareFault → JobFault
text_refusal prepare.Memory = job.Memory
text_refusal refused = job.Refused refused

-- what the refusal of the data is for the job: a bad line of the job
abbrev pub data_refusal : DataFault → JobFault
data_refusal (digits.Line line) = job.Malformed line
data_refusal digits.Memory = job.Memory

-- what a text that was not read whole is for the job
abbrev pub read_refusal : TextFault → JobFault
read_refusal text.NotOpened = job.CannotRead
read_refusal text.NotRead = job.CannotRead
read_refusal text.Memory = job.Memory

-- what the answer of a run is for the job: its stop is the job's
abbrev pub run_answer : Result ℕ RunFault → Result ℕ JobFault
run_answer (Ok done) = Ok done
run_answer (Err stopped) = Err (job.Stopped stopped)

-- the fault is that the job could not be read
abbrev pub is_unread_fault : JobFault → Bool
is_unread_fault job.CannotRead = true
is_unread_fault fault = false

-- the answer is that the job could not be read
abbrev pub is_unread : {T : Type 0} → Result T JobFault → Bool
is_unread (Ok value) = false
is_unread (Err fault) = is_unread_fault fault

-- the answer is that its output took no more, so that no line can be written
abbrev pub is_output_stop : Result ℕ JobFault → Bool
is_output_stop (Err (job.Stopped stopped)) = is_write_stop (Err stopped)
is_output_stop answer = false

-- the status of a job that is not done
abbrev pub status_of_fault : JobFault → Status
status_of_fault job.CannotRead = status.Device
status_of_fault (job.Malformed line) = status.Malformed
status_of_fault (job.Refused refused) = status_of_prepare_fault refused
status_of_fault (job.Stopped stopped) = status_of_stop stopped.cause
status_of_fault job.Memory = status.Memory

-- the status of a job by its answer, where all that it prints is printed
abbrev pub status_of_answer : Result ℕ JobFault → Status
status_of_answer (Ok done) = status.Done
status_of_answer (Err fault) = status_of_fault fault

-- The words that tell why a job is not done. Which words tell a refused text or a stop is not said here.
abbrev pub TellsFault : JobFault → List ℕ → Type 0
TellsFault job.CannotRead words = words ≡ codes "cannot read job"
TellsFault (job.Malformed line) words = words ≡ codes "job line " ++ decimal line
TellsFault (job.Refused refused) words = ⊤
TellsFault (job.Stopped stopped) words = ⊤
TellsFault job.Memory words = words ≡ codes "memory"

-- the words of the line that ends a job
abbrev pub TellsAnswer : Result ℕ JobFault → List ℕ → Type 0
TellsAnswer (Ok done) words = words ≡ codes "done " ++ decimal done
TellsAnswer (Err fault) words = TellsFault fault words

-- the end of a line that was begun
abbrev pub begun_end : Bool → List ℕ
begun_end true = 10 ∷ []
begun_end false = []

-- what is printed at the end: the digit that is due, the end of the line of digits where it was begun, and the words with the end of their line
abbrev pub end_text : Option ℕ → Bool → List ℕ → List ℕ
end_text due begun words = due_text due ++ (begun_end begun ++ (words ++ 10 ∷ []))
