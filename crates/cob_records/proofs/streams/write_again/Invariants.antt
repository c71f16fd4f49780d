-- An interrupted write gave nothing to the writer.
use Rattle.std.specs.Io.KnownBytes.{Keeps}
use Rattle.cob_records.proofs.streams.write_again.Given as goal

abbrev pub invariant-loop : goal.invariant-loop
invariant-loop g l = Keeps (g.W.Write.contents l.initial.writer) (g.W.Write.contents l.writer)
