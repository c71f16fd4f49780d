use Rattle.std.proofs.Common.{refl}
use Rattle.cob_program_runtime.proofs.Counting.{counts_text}
use Rattle.cob_program_runtime.proofs.printing.length_of.Goals as goal

pub returns-in-Ok : goal.returns-in-Ok
returns-in-Ok g c = counts_text _ c.write.new.self (g.D.Display.output c.args.value.now) refl c.in-Ok.ensures.writes
