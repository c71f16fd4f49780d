-- Which of the records that came is the last that was rejected, and which the last that was converted.
use Rattle.std.specs.Prelude.{◌≡◌, ℕ, ◌-◌, ◌<◌, ◌≤◌, ◌==◌, ◌||◌, Bool, true, false, if◌then◌else◌}
use Rattle.cob_program_run.specs.declared.marks.Marks.{Marks}

-- Of so many records that came, those that were rejected apart, the one of this number is the last; 0: all were rejected, or none came.
pub record IsLastPut (rejected : ℕ → Bool) (came number : ℕ) : Type 0 where
  pub within : number ≤ came
  pub put : rejected number ≡ false
  pub behind : (k : ℕ) → number < k → k ≤ came → rejected k ≡ true

-- These are the marks of the rejected records: the last of them, and the last one before it that was put.
pub record HasMarks (rejected : ℕ → Bool) (marks : Marks) : Type 0 where
  pub none_behind : (k : ℕ) → marks.last < k → rejected k ≡ false
  pub before : IsLastPut rejected marks.last marks.before

-- the marks of no rejected record
abbrev pub unmarked : Marks
unmarked = record { last = 0; before = 0 }

-- one more is rejected
abbrev pub with_rejected : ℕ → (ℕ → Bool) → ℕ → Bool
with_rejected number rejected k = (k == number) || rejected k

-- the marks behind one more rejected record
abbrev pub marks_behind : Marks → ℕ → Marks
marks_behind marks number = record { last = number; before = if number - 1 == marks.last then marks.before else number - 1 }

-- the last of so many records that was put
abbrev pub last_put : Marks → ℕ → ℕ
last_put marks came = if marks.last == came then marks.before else came
