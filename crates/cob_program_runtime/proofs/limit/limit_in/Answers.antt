use Rattle.cob_program_runtime.proofs.Telling.{front_tells}
use Rattle.cob_program_runtime.proofs.limit.limit_in.Goals as goal

pub returns-in-Ok : goal.returns-in-Ok
returns-in-Ok g c = front_tells _ (g.F.Read.remaining c.read.new.self) _ c.size_in.result c.in-Ok.ensures.bytes.0 c.size_in.ensures
