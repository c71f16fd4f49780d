use Rattle.std.proofs.Common.{None, Ok, Err, ap, refl}
use Rattle.cob_records_parts.specs.Comings.{chosen_coming}
use Rattle.cob_program_run.proofs.incoming.run_over_apart.Goals as goal

pub returns-in-Ok : goal.returns-in-Ok
returns-in-Ok g c = record { ran = (Ok c.in-Ok.done, None, chosen_coming g.S.Source.coming c.run_over_source-answer.result.1, refl, refl, rw c.in-Ok.is at c.run_over_source-answer.ensures.ran) }

pub returns : goal.returns
returns g c = record {
  ran = (
    Err c.in-Err.fault,
    c.stopped.result,
    chosen_coming g.S.Source.coming c.run_over_source-answer.result.1,
    ap Err c.with_cause.ensures,
    c.stopped.ensures.left (g.S.Source.coming c.run_over_source-answer.result.1.inner),
    rw c.in-Err.is at c.run_over_source-answer.ensures.ran,
  );
}
