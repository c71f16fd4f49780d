use Rattle.std.proofs.Common.{◌∙◌, sym}
use Rattle.cob_program_run.proofs.incoming.run_over_chosen.Goals as goal

pub returns-in-Ok : goal.returns-in-Ok
returns-in-Ok g c = record { ran = rw (sym c.into_rest.ensures ∙ c.in-Ok.is) (_, c.run_over_source.ensures.ran) }
