use Rattle.std.proofs.Common.{inl}
use Rattle.cob_program_report.proofs.EndLemmas.{ends_by, ends_reported}
use Rattle.cob_program_report.specs.Ends.{EndsConvert}
use Rattle.cob_program_report.proofs.command.convert_into.Goals as goal

pub returns-then-is_run : goal.returns-then-is_run
returns-then-is_run g c =
    let line = c.args.line.now in
    ends_reported (λ end. EndsConvert line.rejects line.atomic end) c.tell-status.result c.write_report.result
    (ends_by line.rejects line.atomic c.timed_run-run.result.outcome c.tell-status.result c.timed_run-run.ensures c.tell-status.ensures) c.write_report.ensures

pub returns-else-is_run : goal.returns-else-is_run
returns-else-is_run g c =
    inl (ends_by c.args.line.now.rejects c.args.line.now.atomic c.timed_run-run.result.outcome c.tell-status.result c.timed_run-run.ensures c.tell-status.ensures)
