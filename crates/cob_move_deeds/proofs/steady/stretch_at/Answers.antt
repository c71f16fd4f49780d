use Rattle.cob_move_deeds.proofs.SteadyLemmas.{none_steady, there_noted}
use Rattle.cob_move_deeds.proofs.steady.stretch_at.Goals as goal

pub returns-in-Some : goal.returns-in-Some
returns-in-Some c = λ r m bounds b steady at. steady c.args.bound b c.in-Some.marks at (there_noted c.args.noted.now c.args.bound c.in-Some.marks c.in-Some.ensures)

pub returns-in-None : goal.returns-in-None
returns-in-None c = λ r m bounds b steady at. none_steady r m b
