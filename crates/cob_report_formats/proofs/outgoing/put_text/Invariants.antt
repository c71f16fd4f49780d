-- The sink took all but what is left, and each piece is some of that.
use Rattle.std.proofs.Common.{length}
use Rattle.cob_report_formats.proofs.WrittenLemmas.{WrittenSoFar}
use Rattle.cob_report_formats.proofs.outgoing.put_text.Given as goal

abbrev pub invariant-loop-rest : goal.invariant-loop-rest
invariant-loop-rest g l = WrittenSoFar l.text l.rest (g.W.Sink.taken l.initial.sink) (g.W.Sink.taken l.sink)

abbrev pub decreases-loop-rest : goal.decreases-loop-rest
decreases-loop-rest g l = length l.rest
