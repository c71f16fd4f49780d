-- How a job ends whose output does not tell its bytes.
use Rattle.std.specs.Prelude.{◌≡◌, ℕ, List, None, Option}
use Rattle.cob_convert.specs.Statuses.{code_of}
use Rattle.cob_convert.specs.declared.status.Status.{Status}
use Rattle.cob_program_job.specs.JobAnswers.{EndsWith, job_ends}

-- A job was done over a source that told this before and tells that now, by a sink that does not tell its bytes, of whose writes so many had failed.
abbrev pub EndsUntold : Option (List ℕ) → ℕ → ℕ → Option (List ℕ) → ℕ → ℕ → Type 0
EndsUntold coming reads_failed writes_failed left failed code = EndsWith (job_ends coming reads_failed None writes_failed) left failed code

-- a job ends with the number of a status
abbrev pub IsEndOfJob : ℕ → Type 0
IsEndOfJob code = (end : Status) × (code ≡ code_of end)
