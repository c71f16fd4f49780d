use Rattle.cob_back_moves.proofs.NotedLemmas.{Noted}
use Rattle.cob_back_moves.proofs.noted.note_all.Given as goal

abbrev pub invariant-loop-single : goal.invariant-loop-single
invariant-loop-single l = Noted l.output l.noted l.single-iterator l.statements
