use Rattle.std.proofs.Common.{◌≡◌, ◌-◌, ◌^◌, ◌<◌, ◌≤◌, length, true}
use Rattle.cob_source.specs.Lines.{lines}
use Rattle.cob_program_job.specs.JobData.{line_number_behind}
use Rattle.cob_program_job.specs.Marks.{from_mark}
use Rattle.cob_program_job.proofs.job_text.Lines.part.Given as goal

abbrev pub invariant-loop-rest : goal.invariant-loop-rest
invariant-loop-rest l = record {
  within : length l.self.rest.now ≤ length l.whole;
  mark : from_mark true l.self.rest.now ≡ from_mark true l.whole;
  fewer : length (lines l.self.rest.now) ≤ length (lines l.whole);
  number : l.initial.self.number < 2 ^ 32 → l.self.number ≡ line_number_behind l.initial.self.number (length (lines l.whole) - length (lines l.self.rest.now));
}

abbrev pub decreases-loop-rest : goal.decreases-loop-rest
decreases-loop-rest l = length l.self.rest.now
